use Rattle.std.proofs.Common.{◌≡◌, ◌+◌}
use Rattle.solver.specs.Repeat.{repeat}
use Rattle.solver.specs.Rows.{set_entry, eliminate_entry}
use Rattle.solver.proofs.rows.eliminate_row.Given as goal

abbrev pub invariant-loop-j : goal.invariant-loop-j
invariant-loop-j l = repeat l.j l.w (eliminate_entry l.pivots l.i l.factor) l.part ≡ repeat (l.k + 1) l.w (eliminate_entry l.pivots l.i l.factor) (set_entry l.i l.k l.factor l.fn.part)
