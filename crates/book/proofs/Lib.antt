-- WholeLists has what is claimed of the year book, the claim about the whole list first, VersionOrder the order of versions, Rests what a take-up makes of
-- bytes behind a book, PlantLimits the hours with a limit, HouseP its example; Calls and TakeUp have the functions' returns case by case. RetiredAppends has
-- the append of an hour with code 0, Refusals says which numbers and indices there are, Replies that each answer is some reply's, Errors that number and
-- index name one error.
pub mod Model
pub mod Laws
pub mod Calls
pub mod TakeUp
pub mod RetiredAppends
pub mod Refusals
mod Replies
pub mod Errors
pub mod WholeLists
pub mod Rests
pub mod VersionOrder
pub mod PlantLimits
pub mod HouseP
