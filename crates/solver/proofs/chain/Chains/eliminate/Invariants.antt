use Rattle.std.proofs.Common.{◌≡◌}
use Rattle.solver.specs.Repeat.{repeat}
use Rattle.solver.specs.FastSolver.{at_most24}
use Rattle.solver.specs.Chain.{eliminate_chain}
use Rattle.solver.specs.Inner.Factored.{with_diag}
use Rattle.solver.proofs.chain.Chains.eliminate.Given as goal

abbrev pub invariant-loop-e : goal.invariant-loop-e
invariant-loop-e l =
    let m = l.fn.self in
    record {
      others : l.self ≡ with_diag m l.self.diag;
      left : repeat l.e (at_most24 l.self.n) (eliminate_chain m.two_nodes m.next m.prev) l.self.diag
          ≡ repeat 0 (at_most24 l.self.n) (eliminate_chain m.two_nodes m.next m.prev) m.diag;
    }
