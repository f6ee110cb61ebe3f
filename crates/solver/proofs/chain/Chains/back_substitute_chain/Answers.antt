use Rattle.std.proofs.Common.{◌≡◌, ◌+◌, ◌-◌, arith, refl}
use Rattle.solver.specs.Chain.{outer_slot, back_substitute_node}
use Rattle.solver.proofs.Laws.Counting.{down_turn}
use Rattle.solver.proofs.chain.Chains.back_substitute_chain.Goals as goal

pub loop-s-preserved : goal.loop-s-preserved
loop-s-preserved c =
    let m = c.args.self.now in
    let outer = outer_slot m.two_nodes c.args.e in
    let i = c.loop-s.s in
    let place : outer + (i - outer - 1) ≡ i - 1 = omega arith in
    down_turn (back_substitute_node m.diag m.next outer) outer i c.loop-s.t _ _ (omega arith) (rw place refl) c.loop-s.invariant
