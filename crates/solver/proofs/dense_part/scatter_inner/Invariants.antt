use Rattle.std.proofs.Common.{◌≡◌}
use Rattle.solver.specs.Repeat.{repeat}
use Rattle.solver.specs.FastSolver.{scatter_inner}
use Rattle.solver.proofs.dense_part.scatter_inner.Given as goal

abbrev pub invariant-loop-e : goal.invariant-loop-e
invariant-loop-e l = repeat l.e l.fn.count.n (scatter_inner l.v) l.t ≡ repeat 0 l.fn.count.n (scatter_inner l.v) l.fn.t
