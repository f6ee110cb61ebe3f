-- Words that contracts need for the way in which the code splits a calculation. They stand in the contracts of private functions and of the parts
-- of the solve that the zone calls. Who reads what the engine promises does not need them, as a law ties each to the definition that it serves.
pub mod Factored
pub mod Claims
pub mod Columns
pub mod Reduced
pub mod Apart
