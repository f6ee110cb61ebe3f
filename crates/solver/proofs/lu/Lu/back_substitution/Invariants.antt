use Rattle.std.proofs.Common.{◌≡◌}
use Rattle.solver.specs.Repeat.{repeat_down}
use Rattle.solver.specs.Lu.{back_step}
use Rattle.solver.proofs.lu.Lu.back_substitution.Given as goal

abbrev pub invariant-loop-k : goal.invariant-loop-k
invariant-loop-k l = repeat_down l.k (back_step l.self.matrix) l.b ≡ repeat_down l.fn.count.n (back_step l.self.matrix) l.fn.b
