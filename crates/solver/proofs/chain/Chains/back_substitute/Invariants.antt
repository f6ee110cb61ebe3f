use Rattle.std.proofs.Common.{◌≡◌}
use Rattle.solver.specs.Repeat.{repeat}
use Rattle.solver.specs.FastSolver.{at_most24}
use Rattle.solver.specs.Chain.{back_substitute_chain}
use Rattle.solver.proofs.chain.Chains.back_substitute.Given as goal

abbrev pub invariant-loop-e : goal.invariant-loop-e
invariant-loop-e l =
    repeat l.e (at_most24 l.self.n) (back_substitute_chain l.self.two_nodes l.self.diag l.self.next) l.t
    ≡ repeat 0 (at_most24 l.self.n) (back_substitute_chain l.self.two_nodes l.self.diag l.self.next) l.fn.t
