pub mod State
pub mod Hour
pub mod NextHour
pub mod StartUp
pub mod Why
pub mod Numbers
pub mod Answers
