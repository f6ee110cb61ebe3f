use Rattle.std.proofs.Common.{get_or, rules, tests}
use Rattle.std.specs.Float.{nan}
use Rattle.solver.specs.Closeness.{valid_divisor}
use Rattle.solver.specs.Chain.{chain_divisors_valid}
use Rattle.solver.proofs.Laws.Counting.{all_from_range}
use Rattle.solver.proofs.chain.Chains.chain_divisors_valid.Goals as goal

pub returns : goal.returns
unfolding chain_divisors_valid
returns c =
    rw (← c.outer_slot.ensures.0)
    (all_from_range (λ s. valid_divisor (get_or c.args.self.now.diag s nan)) _ _ _ _ _ c.all.ensures.ran (λ x b q k. search (rules, tests)))
