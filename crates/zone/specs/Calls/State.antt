-- The state before an hour: refusal 6, its node temperatures in the solver's slots, and the operative temperature.
-- Specification, Order of tests; Node order; Operative temperature.
use Rattle.std.specs.Prelude.{Bool, ◌&&◌, List, take, eqb, Float}
use Rattle.solver.specs.Result.{Result, ok, bind, require}
use Rattle.solver.specs.Closeness.{within_state_bound}
use Rattle.zone.specs.declared.record.zone_record.Zone.{Zone}
use Rattle.zone.specs.Record.BuildingElement.{node_count}
use Rattle.zone.specs.Record.Numbers.{state_invalid}
use Rattle.zone.specs.Check.Ranges.{all_in}
use Rattle.zone.specs.Check.ZoneTest.{zone_test}
use Rattle.zone.specs.Physics.System.{zone_two_nodes}
use Rattle.zone.specs.Physics.NodeLayout.{to_slots, to_nodes}
use Rattle.zone.specs.Physics.TempOperative.{temp_operative}
use Rattle.zone.specs.declared.calls.state.State.{State}

-- every temperature is finite and not beyond ±1e6
abbrev pub all_within_state_bound : List Float → Bool
all_within_state_bound ts = all_in within_state_bound ts

-- 6: a wrong node count, or a value not finite or beyond ±1e6
unfoldable pub state_test : Zone → State → Result (Unit {0})
state_test z s = require (eqb s.nodes (node_count z) && all_within_state_bound (take s.nodes s.temps)) state_invalid

-- the zone's 4, 5, then 6
unfoldable pub zone_and_state_test : Zone → State → Result (Unit {0})
zone_and_state_test z s =
    bind (zone_test z) λ _.
    state_test z s

unfoldable pub slots_of : Zone → State → List Float
slots_of z s = to_slots z.count (zone_two_nodes z) s.temps

-- the state of node temperatures that stand in slots
unfoldable pub state_of : Zone → List Float → State
state_of z t = record { nodes = node_count z; temps = to_nodes z.count (zone_two_nodes z) t }

-- the operative temperature of node temperatures, whatever they are
unfoldable pub operative_of : Zone → (temps : List Float) → Float
operative_of z temps = temp_operative z (to_slots z.count (zone_two_nodes z) temps)

-- `temp_operative`, of a state that passes the tests
unfoldable pub operative : Zone → State → Result Float
operative z s =
    bind (zone_and_state_test z s) λ _.
    ok (operative_of z s.temps)
