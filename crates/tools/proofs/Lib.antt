-- Claims has what is claimed of the questions and ConvertClaims what is claimed of the converter, Refusals which numbers and indices they are refused with,
-- Errors that number and index name one error of a question; Laws has what their proofs and the functions' cite.
pub mod Laws
pub mod Refusals
pub mod Errors
pub mod Claims
pub mod ConvertClaims
