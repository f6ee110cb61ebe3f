use Rattle.std.proofs.Common.{◌≡◌}
use Rattle.solver.specs.Repeat.{repeat}
use Rattle.solver.specs.FastSolver.{at_most24}
use Rattle.solver.specs.Inner.Reduced.{reduce_chain}
use Rattle.solver.proofs.chain.Chains.reduce.Given as goal

abbrev pub invariant-loop-e : goal.invariant-loop-e
invariant-loop-e l =
    repeat l.e (at_most24 l.self.n) (reduce_chain l.self.two_nodes l.self.diag l.self.prev) l.b
    ≡ repeat 0 (at_most24 l.self.n) (reduce_chain l.self.two_nodes l.self.diag l.self.prev) l.fn.b
