use Rattle.std.proofs.Common.{◌≡◌, get_or}
use Rattle.std.specs.Float.{nan}
use Rattle.solver.specs.Repeat.{repeat}
use Rattle.solver.specs.Rows.{set_entry}
use Rattle.solver.proofs.rows.set_row.Given as goal

abbrev pub invariant-loop-j : goal.invariant-loop-j
invariant-loop-j l = repeat l.j 25 (λ k. set_entry l.i k (get_or l.r k nan)) l.m ≡ repeat 0 25 (λ k. set_entry l.i k (get_or l.r k nan)) l.fn.m
