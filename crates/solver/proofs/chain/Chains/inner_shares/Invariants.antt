use Rattle.std.proofs.Common.{◌≡◌}
use Rattle.solver.specs.Repeat.{repeat}
use Rattle.solver.specs.FastSolver.{at_most24}
use Rattle.solver.specs.Inner.Reduced.{set_inner_share}
use Rattle.solver.proofs.chain.Chains.inner_shares.Given as goal

abbrev pub invariant-loop-e : goal.invariant-loop-e
invariant-loop-e l =
    repeat l.e (at_most24 l.self.n) (set_inner_share l.self.diag l.self.prev l.b) l.inner
    ≡ repeat 0 (at_most24 l.self.n) (set_inner_share l.self.diag l.self.prev l.b) l.fn.inner
