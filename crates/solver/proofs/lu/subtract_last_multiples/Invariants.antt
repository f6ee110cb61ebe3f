use Rattle.std.proofs.Common.{◌≡◌}
use Rattle.solver.specs.Repeat.{repeat}
use Rattle.solver.specs.Inner.Columns.{subtract_last_multiple}
use Rattle.solver.proofs.lu.subtract_last_multiples.Given as goal

abbrev pub invariant-loop-i : goal.invariant-loop-i
invariant-loop-i l = repeat l.i l.fn.count.n (subtract_last_multiple l.last l.x) l.b ≡ repeat 0 l.fn.count.n (subtract_last_multiple l.last l.x) l.fn.b
