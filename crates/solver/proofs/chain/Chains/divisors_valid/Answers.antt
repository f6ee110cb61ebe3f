use Rattle.std.proofs.Common.{rules, tests}
use Rattle.solver.specs.Chain.{chain_divisors_valid, divisors_valid}
use Rattle.solver.proofs.Laws.Counting.{all_from_range}
use Rattle.solver.proofs.chain.Chains.divisors_valid.Goals as goal

pub returns : goal.returns
unfolding divisors_valid
returns c =
    rw (← c.count.ensures)
    (all_from_range (chain_divisors_valid c.args.self.now.two_nodes c.args.self.now.diag) _ _ _ _ _ c.all.ensures.ran (λ x b q k. search (rules, tests)))
