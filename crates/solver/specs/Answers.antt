-- What a call answers, in the words of the definitions: a refusal by its number.
-- Specification, Table of refusals; Refusals of a solve.
use Rattle.std.specs.Prelude.{ℕ, Ok, Err}
use Rattle.std.specs.Prelude as Rust
use Rattle.solver.specs.declared.error.SolveError.{SolveError}
use Rattle.solver.specs.declared.error.SolveError.TheVariants.{Divisor, Temperature}
use Rattle.solver.specs.Numbers.{divisor, temperature}
use Rattle.solver.specs.Result.{Result, ok, refused}

abbrev pub number_of : SolveError → ℕ
number_of Divisor = divisor
number_of Temperature = temperature

module _ {A : Type 0} where
  abbrev pub answered : Rust.Result A SolveError → Result A
  answered (Ok a) = ok a
  answered (Err e) = refused (number_of e) 0

  -- 0 of an answer, else the number of the refusal
  abbrev pub number_in : Rust.Result A SolveError → ℕ
  number_in (Ok a) = 0
  number_in (Err e) = number_of e
