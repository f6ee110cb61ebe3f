-- `fast_solver` is `solve`, with a number beside the temperatures.
use Rattle.std.proofs.Common.{◌≡◌, refl, Bool, true, false, List, Float}
use Rattle.solver.specs.declared.system.Matrix.{Matrix}
use Rattle.solver.specs.FastSolver.{diag_of, dense_of, all_divisors_valid, temperatures_of, temperatures_valid, solve}
use Rattle.solver.specs.Inner.Claims.{FastSolverIs}
use Rattle.solver.specs.Inner.Factored.{factor_dense, factor, substitute, fast_solver, solved_res}

module _ (a : Matrix) (b : List Float) where
  -- `fast_solver` is the solve, with a number beside the temperatures
  pub fast_solver_is : FastSolverIs a b
  unfolding fast_solver factor factor_dense substitute solve all_divisors_valid diag_of dense_of temperatures_of temperatures_valid
  fast_solver_is = by (all_divisors_valid a) (temperatures_valid a (temperatures_of a b)) refl refl
    where
      by : (v w : Bool) → all_divisors_valid a ≡ v → temperatures_valid a (temperatures_of a b) ≡ w → solved_res (fast_solver a b) ≡ solve a b
      by true true e f = rw (e, f)
      by true false e f = rw (e, f)
      by false w e f = rw e
