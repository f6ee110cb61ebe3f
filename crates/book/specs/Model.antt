-- In this order: what the book needs of the layers below, what the contracts cite, the plain book and its own take-up, lists of calls and the plain
-- book's run of them, what a caller does and the functions return to him, what a session has of one call, and what is claimed.
pub mod Bytes
pub mod Interface
pub mod Calls
pub mod Plain
pub mod PlainTakeUp
pub mod Run
pub mod Session
pub mod InSession
pub mod Claims
