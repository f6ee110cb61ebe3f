use Rattle.std.proofs.Common.{◌≡◌}
use Rattle.solver.specs.Repeat.{repeat}
use Rattle.solver.specs.Inner.Reduced.{set_inner_diagonal}
use Rattle.solver.proofs.dense_part.set_inner_diagonals.Given as goal

abbrev pub invariant-loop-e : goal.invariant-loop-e
invariant-loop-e l = repeat l.e l.fn.count.n (set_inner_diagonal l.diag) l.dense ≡ repeat 0 l.fn.count.n (set_inner_diagonal l.diag) l.fn.dense
