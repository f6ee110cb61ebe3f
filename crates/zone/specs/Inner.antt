-- Words that only contracts need, of private functions and of those that one layer calls of the other: the code's split of a calculation. Nobody has to
-- believe them: a law ties each to a definition outside, and no definition outside cites them.
pub mod Head
pub mod Assembly
pub mod Assembled
pub mod FabricSums
pub mod ConvectiveSums
pub mod Operative
pub mod Prepared
pub mod Kept
pub mod KeptMatrix
pub mod PreparedHour
pub mod Demand
pub mod Solves
pub mod Hour
pub mod Why
pub mod Check
pub mod Format
pub mod Temperatures
