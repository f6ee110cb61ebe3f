pub mod Compared
pub mod Read
