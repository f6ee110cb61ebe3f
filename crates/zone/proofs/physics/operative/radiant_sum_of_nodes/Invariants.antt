use Rattle.std.proofs.Common.{◌≡◌, ◌*◌, ◌≤◌, length}
use Rattle.solver.specs.Sums.{sum2_add_all, terms}
use Rattle.zone.specs.Physics.System.{area_of, zone_two_nodes}
use Rattle.zone.specs.Physics.NodeLayout.{first_node}
use Rattle.zone.specs.Inner.Operative.{radiant_of_nodes}
use Rattle.zone.proofs.physics.operative.radiant_sum_of_nodes.Given as goal

abbrev pub invariant-loop-el : goal.invariant-loop-el
invariant-loop-el l =
    let term = radiant_of_nodes (area_of l.z.building_elements) (zone_two_nodes l.z) l.temps in
    record {
      node_is : l.node ≡ first_node (zone_two_nodes l.z) l.el-index;
      bound : l.node ≤ 5 * l.el-index;
      left : sum2_add_all l.total (terms l.el-index (length l.el-items) term) ≡ sum2_add_all l.initial.total (terms 0 (length l.el-items) term);
    }
