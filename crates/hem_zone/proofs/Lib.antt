-- Claims is what a caller learns from a returned number, and ToldApart that no two refusals have one; Ties has each contract asking nothing and ensuring its
-- definition; WholeLists is the claim about whole lists of calls on a book, InSession what these have of one call, BookParameters the parameters of these
-- calls; Engine is all that `promises` names.
pub mod Laws
pub mod Outcomes
pub mod Claims
pub mod ToldApart
pub mod BookTypes
pub mod WholeLists
pub mod BookParameters
pub mod Ties
pub mod InSession
pub mod Engine
