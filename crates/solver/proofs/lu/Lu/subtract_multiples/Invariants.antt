use Rattle.std.proofs.Common.{◌≡◌}
use Rattle.solver.specs.Repeat.{repeat}
use Rattle.solver.specs.Lu.{subtract_multiple}
use Rattle.solver.proofs.lu.Lu.subtract_multiples.Given as goal

abbrev pub invariant-loop-i : goal.invariant-loop-i
invariant-loop-i l = repeat l.i l.end (subtract_multiple l.self.matrix l.k l.x) l.b ≡ repeat l.start l.end (subtract_multiple l.self.matrix l.k l.x) l.fn.b
