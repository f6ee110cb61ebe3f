use Rattle.std.proofs.Common.{◌≡◌, ◌+◌, ◌*◌}
use Rattle.solver.specs.Repeat.{repeat}
use Rattle.solver.specs.Chain.{outer_slot, adjust_diagonal}
use Rattle.solver.specs.Inner.Factored.{with_diag}
use Rattle.solver.proofs.chain.Chains.eliminate_chain.Given as goal

abbrev pub invariant-loop-s : goal.invariant-loop-s
invariant-loop-s l =
    let m = l.fn.self in
    record {
      others : l.self ≡ with_diag m l.self.diag;
      left : repeat l.s (5 * l.e + 4) (adjust_diagonal m.next m.prev) l.self.diag
          ≡ repeat (outer_slot m.two_nodes l.e) (5 * l.e + 4) (adjust_diagonal m.next m.prev) m.diag;
    }
