-- The numbers of the solver's refusals, by name (Specification, Table of refusals).
use Rattle.std.specs.Prelude.{ℕ}

-- a divisor of a chain or a dense pivot that is zero or not finite
abbrev pub divisor : ℕ
divisor = 12

-- a node temperature that is not finite or beyond ±1e6
abbrev pub temperature : ℕ
temperature = 13
