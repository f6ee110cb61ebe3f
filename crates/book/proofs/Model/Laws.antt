-- Laws of the book's definitions, which its theorems and the functions' proofs cite.
pub mod Bytes
pub mod Entries
pub mod Checking
pub mod Decode
pub mod ByIndex
pub mod Refusals
