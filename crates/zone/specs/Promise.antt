-- What the layers above cite of the solver's definitions, passed on: they name the zone alone.
pub use Rattle.solver.specs.F64.{one64, zero64}
pub use Rattle.solver.specs.Refusals.{RefusesOnly, SolveRefusal, accepts, solve_divisor, refuses, solve_temperature}
pub use Rattle.solver.specs.declared.error.SolveError.TheVariants.{Divisor, Temperature}
pub use Rattle.solver.specs.Result.{Result, bind, require, require_at, ok, refused}
