use Rattle.std.proofs.Common.{◌≡◌, ◌+◌, ◌-◌, ◌*◌}
use Rattle.solver.specs.Repeat.{repeat_down}
use Rattle.solver.specs.Chain.{outer_slot, back_substitute_node}
use Rattle.solver.proofs.chain.Chains.back_substitute_chain.Given as goal

abbrev pub invariant-loop-s : goal.invariant-loop-s
invariant-loop-s l =
    let outer = outer_slot l.self.two_nodes l.e in
    repeat_down (l.s - outer) (back_substitute_node l.self.diag l.self.next outer) l.t
    ≡ repeat_down (5 * l.e + 4 - outer) (back_substitute_node l.self.diag l.self.next outer) l.fn.t
