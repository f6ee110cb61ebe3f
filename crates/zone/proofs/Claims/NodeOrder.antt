-- Node order and slots, there and back.
use Rattle.std.proofs.Common.{ℕ, Bool, List}
use Rattle.zone.specs.Claims.NodeOrder.{NodeOrder}
use Rattle.zone.proofs.Laws.Nodes.{nodes_back, slots_again, slots_again_air}

pub node_order : (two_nodes : List Bool) (count : ℕ) → NodeOrder two_nodes count
node_order two_nodes count =
    record { back = nodes_back two_nodes count; again = slots_again two_nodes count; air = slots_again_air two_nodes count }
