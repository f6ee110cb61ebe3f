-- Which refusals a result can be, by number and index; and those of the solver.
-- Specification, What a refusal is; Refusals of a solve.
use Rattle.std.specs.Prelude.{ℕ, ◌≡◌}
use Rattle.solver.specs.Result.{Result, ok, refused}
use Rattle.solver.specs.Numbers.{divisor, temperature}
use Rattle.solver.specs.Answers.{number_of}
use Rattle.solver.specs.declared.error.SolveError.{SolveError}

-- every refusal of a result is one that P allows
pub data RefusesOnly {A : Type 0} (P : (number index : ℕ) → Type 0) : Result A → Type 0 where
  accepts : (a : A) → RefusesOnly P (ok a)
  refuses : {number index : ℕ} → P number index → RefusesOnly P (refused number index)

-- 12 for a divisor or a pivot that is not valid, else 13 for a node that is not within ±1e6; neither has an index (Specification, Refusals of a solve)
pub data SolveRefusal : (number index : ℕ) → Type 0 where
  solve_divisor : SolveRefusal divisor 0
  solve_temperature : SolveRefusal temperature 0

-- no two errors have one number
abbrev pub OneError : Type 0
OneError = (e e' : SolveError) → number_of e ≡ number_of e' → e ≡ e'
