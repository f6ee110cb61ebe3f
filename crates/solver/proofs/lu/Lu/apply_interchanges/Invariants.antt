use Rattle.std.proofs.Common.{◌≡◌}
use Rattle.solver.specs.Repeat.{repeat}
use Rattle.solver.specs.Lu.{apply_interchange}
use Rattle.solver.proofs.lu.Lu.apply_interchanges.Given as goal

abbrev pub invariant-loop-k : goal.invariant-loop-k
invariant-loop-k l = repeat l.k l.fn.count.n (apply_interchange l.self.interchanges) l.b ≡ repeat 0 l.fn.count.n (apply_interchange l.self.interchanges) l.fn.b
