-- What is claimed of books, for all layers that meet InterfaceLaws: Sessions has the claim about the whole list, InSession what a session has of one call,
-- Books what follows for books, Laws what the functions' proofs cite. Caller, CodeLaws and Formed are words of the proofs.
pub mod InterfaceLaws
pub mod Formed
pub mod CodeLaws
pub mod Caller
pub mod Books
pub mod Laws
pub mod Agreement
pub mod Contents
pub mod AppendCut
pub mod Whole
pub mod Sessions
pub mod InSession
mod Example
