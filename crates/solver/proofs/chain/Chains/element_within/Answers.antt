use Rattle.std.proofs.Common.{get_or, rules, tests}
use Rattle.std.specs.Float.{nan}
use Rattle.solver.specs.Closeness.{within_state_bound}
use Rattle.solver.specs.Chain.{element_within}
use Rattle.solver.proofs.Laws.Counting.{all_from_range}
use Rattle.solver.proofs.chain.Chains.element_within.Goals as goal

pub returns : goal.returns
unfolding element_within
returns c =
    rw (← c.outer_slot.ensures.0)
    (all_from_range (λ s. within_state_bound (get_or c.args.t.now s nan)) _ _ _ _ _ c.all.ensures.ran (λ x b q k. search (rules, tests)))
