-- What a result is refused with, both ways.
-- Specification, Of every value.
use Rattle.std.specs.Prelude.{ℕ, ◌≡◌}
use Rattle.solver.specs.Result.{Result, refused}
use Rattle.solver.specs.Refusals.{RefusesOnly}

-- a result is refused with a number and an index just where P has them: for no other reason, and whenever there is one
pub record RefusesWhere {A : Type 0} (P : (number index : ℕ) → Type 0) (r : Result A) : Type 0 where
  pub only : RefusesOnly P r
  pub whenever : (number index : ℕ) → P number index → r ≡ refused number index
