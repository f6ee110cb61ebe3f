use Rattle.std.proofs.Common.{◌≡◌, ◌<◌}
use Rattle.solver.specs.Repeat.{repeat}
use Rattle.solver.specs.Closeness.{abs}
use Rattle.solver.specs.Rows.{entry, larger_in_column, pivot_row}
use Rattle.solver.proofs.rows.pivot_row.Given as goal

abbrev pub invariant-loop-i : goal.invariant-loop-i
invariant-loop-i l = record {
  within : l.found < l.n;
  largest : l.largest ≡ abs (entry l.found l.k l.part);
  left : repeat l.i l.n (larger_in_column l.k l.part) l.found ≡ pivot_row l.k l.n l.part;
}
