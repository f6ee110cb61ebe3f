-- In this order: the plain book and what is claimed of books, for any layers; sizes, the bytes of an entry and the layers of the year book; what its
-- functions answer, and what they may be refused with.
pub mod Numbers
pub mod Model
pub mod Layout
pub mod Entry
pub mod Year
pub mod Answers
pub mod RetiredAppends
pub mod Refusals
pub mod VersionOrder
pub mod Rests
pub mod PlantLimits
pub mod HouseP
pub mod Inner
