-- What follows for books.
pub mod Equal
pub mod Cuts
pub mod TakenUp
pub mod Behind
pub mod Further
