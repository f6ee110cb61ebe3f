use Rattle.std.proofs.Common.{◌≡◌, ◌+◌, ◌*◌, ◌≤◌, drop}
use Rattle.zone.specs.Record.BuildingElement.{nodes_of}
use Rattle.zone.proofs.record.zone_record.Zone.node_count.Given as goal

-- the nodes that are counted, with those of the elements that are left, are all
abbrev pub invariant-loop-e : goal.invariant-loop-e
invariant-loop-e l = record { few : l.total ≤ 5 * l.e-index + 1; left : l.total + nodes_of (drop l.e-index l.e-items) ≡ nodes_of l.e-items + 1 }
