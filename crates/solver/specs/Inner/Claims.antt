-- `fast_solver` is the solve, with a number beside the temperatures.
use Rattle.std.specs.Prelude.{◌≡◌, List, Float}
use Rattle.solver.specs.declared.system.Matrix.{Matrix}
use Rattle.solver.specs.FastSolver.{solve}
use Rattle.solver.specs.Inner.Factored.{fast_solver, solved_res}

abbrev pub FastSolverIs : Matrix → List Float → Type 0
FastSolverIs a b = solved_res (fast_solver a b) ≡ solve a b
