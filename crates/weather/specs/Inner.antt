pub mod Decimals
pub mod Quantities
