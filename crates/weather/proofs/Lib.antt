-- Claims has what is claimed of the weather of a line, Refusals which numbers and indices it is refused with, Errors that a number names one error, Examples fields that are calculated; Laws what their proofs and the functions' cite.
pub mod Laws
pub mod Refusals
pub mod Errors
pub mod Examples
pub mod Claims
