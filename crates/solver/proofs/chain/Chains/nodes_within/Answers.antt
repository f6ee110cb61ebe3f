use Rattle.std.proofs.Common.{◌≡◌, rules, tests}
use Rattle.solver.specs.Repeat.{all}
use Rattle.solver.specs.FastSolver.{at_most24}
use Rattle.solver.specs.Chain.{element_within, nodes_within}
use Rattle.solver.proofs.Laws.Counting.{all_from_range}
use Rattle.solver.proofs.chain.Chains.nodes_within.Goals as goal

pub returns : goal.returns
unfolding nodes_within
returns c =
    let e : c.all.result ≡ all 0 (at_most24 c.args.self.now.n) (element_within c.args.self.now.two_nodes c.args.t.now) =
    rw (← c.count.ensures)
    (all_from_range (element_within c.args.self.now.two_nodes c.args.t.now) _ _ _ _ _ c.all.ensures.ran (λ x b q k. search (rules, tests))) in
    rw e (search rules)
