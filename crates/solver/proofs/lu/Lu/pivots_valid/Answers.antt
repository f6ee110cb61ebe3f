use Rattle.std.proofs.Common.{rules, tests}
use Rattle.solver.specs.Closeness.{valid_divisor}
use Rattle.solver.specs.Rows.{entry}
use Rattle.solver.specs.Lu.{pivots_valid}
use Rattle.solver.proofs.Laws.Counting.{all_from_range}
use Rattle.solver.proofs.lu.Lu.pivots_valid.Goals as goal

pub returns : goal.returns
unfolding pivots_valid
returns c = all_from_range (λ k. valid_divisor (entry k k c.args.self.now.matrix)) _ _ _ _ _ c.all.ensures.ran (λ x b q k. search (rules, tests))
