use Rattle.std.proofs.Common.{◌≡◌}
use Rattle.solver.specs.Repeat.{repeat}
use Rattle.solver.specs.Rows.{eliminate_row}
use Rattle.solver.proofs.rows.eliminate_rows.Given as goal

abbrev pub invariant-loop-i : goal.invariant-loop-i
invariant-loop-i l = repeat l.i l.h (eliminate_row l.w l.k l.pivots l.reciprocal) l.part ≡ repeat 1 l.h (eliminate_row l.w l.k l.pivots l.reciprocal) l.fn.part
