-- Words that only contracts need, of private functions and of those that a tool calls (Reader). Laws tie what is read to the plain book.
pub mod Answers
pub mod Start
pub mod Checked
pub mod Sizes
pub mod Entry
pub mod Record
pub mod Reader
