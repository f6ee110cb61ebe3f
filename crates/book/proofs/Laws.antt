-- Laws of bytes in a buffer and of the loops that write them, of an entry's length and parts, of the first record of a rest, of the layers below, those that the plain book
-- asks of its layers, and what the zone's answers on heads and hours tell.
pub mod Start
pub mod Loops
pub mod Entry
pub mod Body
pub mod Rest
pub mod Writing
pub mod Accepted
pub mod Interface
pub mod Twice
pub mod Heads
pub mod NextHour
pub mod Reader
pub mod ReadBook
