use Rattle.std.proofs.Common.{◌≡◌, ◌*◌, ◌≤◌}
use Rattle.solver.specs.Repeat.{repeat}
use Rattle.zone.specs.Physics.System.{zone_two_nodes}
use Rattle.zone.specs.Physics.NodeLayout.{first_node, to_slots_at}
use Rattle.zone.proofs.physics.node_layout.to_slots.Given as goal

abbrev pub invariant-loop-e : goal.invariant-loop-e
invariant-loop-e l =
    record {
      node_is : l.node ≡ first_node (zone_two_nodes l.z) l.e;
      bound : l.node ≤ 5 * l.e;
      left : repeat l.e l.n (to_slots_at (zone_two_nodes l.z) l.temps) l.slots ≡ repeat 0 l.n (to_slots_at (zone_two_nodes l.z) l.temps) l.initial.slots;
    }
