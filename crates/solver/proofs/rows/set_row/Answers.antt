use Rattle.std.proofs.Common.{rules}
use Rattle.solver.specs.Rows.{set_row}
use Rattle.solver.proofs.Laws.Counting.{repeat_turn, repeat_end}
use Rattle.solver.proofs.rows.set_row.Goals as goal

pub loop-j-preserved : goal.loop-j-preserved
loop-j-preserved c = search (rules, repeat_turn)

pub returns : goal.returns
unfolding set_row
returns c = search (rules, repeat_end)
