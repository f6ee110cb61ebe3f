use Rattle.std.proofs.Common.{◌≡◌, ◌+◌, ◌*◌}
use Rattle.solver.specs.Repeat.{repeat}
use Rattle.solver.specs.Chain.{outer_slot, adjust_right_side}
use Rattle.solver.proofs.chain.Chains.reduce_chain.Given as goal

abbrev pub invariant-loop-s : goal.invariant-loop-s
invariant-loop-s l =
    repeat l.s (5 * l.e + 3) (adjust_right_side l.self.diag l.self.prev) l.b
    ≡ repeat (outer_slot l.self.two_nodes l.e) (5 * l.e + 3) (adjust_right_side l.self.diag l.self.prev) l.fn.b
