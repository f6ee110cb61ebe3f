use Rattle.std.proofs.Common.{◌≡◌, ◌+◌}
use Rattle.solver.specs.Repeat.{repeat}
use Rattle.solver.specs.Lu.{forward_step}
use Rattle.solver.proofs.lu.Lu.forward_substitution.Given as goal

abbrev pub invariant-loop-k : goal.invariant-loop-k
invariant-loop-k l = repeat l.k (l.count.n + 1) (forward_step (l.count.n + 1) l.self.matrix) l.b ≡ repeat 0 (l.count.n + 1) (forward_step (l.count.n + 1) l.self.matrix) l.fn.b
