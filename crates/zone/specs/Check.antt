pub mod Ranges
pub mod ZoneTest
