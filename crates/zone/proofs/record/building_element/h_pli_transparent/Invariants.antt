use Rattle.std.proofs.Common.{◌≡◌, ◌/◌, ◌^◌, drop}
use Rattle.zone.specs.Record.BuildingElement.{add_closed}
use Rattle.zone.proofs.record.building_element.h_pli_transparent.Given as goal

-- the resistances that are left, added to r, give what all of them give
abbrev pub invariant-loop-j : goal.invariant-loop-j
invariant-loop-j l = add_closed (l.treatments_open / 2 ^ l.j) l.r (drop l.j l.delta-items) ≡ add_closed l.treatments_open l.initial.r l.delta-items
