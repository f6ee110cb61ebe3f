-- Which numbers and indices operative temperature, demand, hour step, update and start-up can be refused with.
-- Specification, Order of tests; Table of refusals; What a refusal is.
use Rattle.std.specs.Prelude.{ℕ, ◌≤◌, List, Float}
use Rattle.solver.specs.Refusals.{RefusesOnly, SolveRefusal}
use Rattle.zone.specs.declared.record.building_element.Coefficients.{Coefficients}
use Rattle.zone.specs.declared.record.zone_record.Zone.{Zone}
use Rattle.zone.specs.declared.format.conditions.FixedRate.{FixedRate}
use Rattle.zone.specs.declared.format.limits.Limits.{Limits}
use Rattle.zone.specs.declared.calls.state.State.{State}
use Rattle.zone.specs.Calls.State.{operative}
use Rattle.zone.specs.Calls.Hour.{demand, hour_step, update_temperatures}
use Rattle.zone.specs.Calls.StartUp.{init_node_temps}
use Rattle.zone.specs.Record.Numbers.{state_invalid, conditions_value, cooling_below_heating, ventilation_below_heating, no_effect, not_settled, false_entry, limit_value}
use Rattle.zone.specs.Claims.HeadRefusals.{ZoneRefusal, ConditionsRefusal}

-- the operative temperature: the zone's 4, 5, then the state's 6
pub data OperativeRefusal : (number index : ℕ) → Type 0 where
  operative_zone : {number index : ℕ} → ZoneRefusal number index → OperativeRefusal number index
  operative_state_invalid : OperativeRefusal state_invalid 0

-- the demand's
pub data DemandRefusal : (number index : ℕ) → Type 0 where
  -- the zone's 4, 5
  demand_zone : {number index : ℕ} → ZoneRefusal number index → DemandRefusal number index
  -- a state of a wrong node count, or with a temperature not within ±1e6
  demand_state_invalid : DemandRefusal state_invalid 0
  -- 7, 8, 9
  demand_conditions : {number index : ℕ} → ConditionsRefusal number index → DemandRefusal number index
  -- cooling below heating setpoint
  demand_cooling_below_heating : DemandRefusal cooling_below_heating 0
  -- ventilation below heating setpoint
  demand_ventilation_below_heating : DemandRefusal ventilation_below_heating 0
  -- of each of its solves 12, 13
  demand_solve : {number index : ℕ} → SolveRefusal number index → DemandRefusal number index
  -- last, loaded and free temperature differ by something close to 0
  demand_no_effect : DemandRefusal no_effect 0

-- an hour of a version that hours have: the demand's, and 19, a limit out of range
pub data KnownHourRefusal : (number index : ℕ) → Type 0 where
  hour_demand : {number index : ℕ} → DemandRefusal number index → KnownHourRefusal number index
  hour_limit_value : KnownHourRefusal limit_value 0

-- an hour step's: these, and 18, index 0, of a version that no hour has
pub data HourRefusal : (number index : ℕ) → Type 0 where
  hour_known : {number index : ℕ} → KnownHourRefusal number index → HourRefusal number index
  hour_false_entry : HourRefusal false_entry 0

-- an update's: the zone's 4, 5; 6 to 9; behind the conditions' 9 that of its own gains, fraction and rate, index 0; then 12, 13
pub data UpdateRefusal : (number index : ℕ) → Type 0 where
  update_zone : {number index : ℕ} → ZoneRefusal number index → UpdateRefusal number index
  update_state_invalid : UpdateRefusal state_invalid 0
  update_conditions : {number index : ℕ} → ConditionsRefusal number index → UpdateRefusal number index
  update_conditions_value : UpdateRefusal conditions_value 0
  update_solve : {number index : ℕ} → SolveRefusal number index → UpdateRefusal number index

-- start-up's: the zone's 4, 5; 11 to 14 of its passes; 15 where none of the passes that the limit allows settled. Not 10: its two setpoints are one
pub data StartUpRefusal : (number index : ℕ) → Type 0 where
  start_up_zone : {number index : ℕ} → ZoneRefusal number index → StartUpRefusal number index
  start_up_ventilation_below_heating : StartUpRefusal ventilation_below_heating 0
  start_up_solve : {number index : ℕ} → SolveRefusal number index → StartUpRefusal number index
  start_up_no_effect : StartUpRefusal no_effect 0
  start_up_not_settled : StartUpRefusal not_settled 0

-- an index is that of an element of this zone, from 1 to its count, or 0
abbrev pub OfZone : Zone → (number index : ℕ) → Type 0
OfZone z number index = index ≤ z.count

pub record IndicesOfZone (c : Coefficients) (z : Zone) : Type 0 where
  pub operatives : (s : State) → RefusesOnly (OfZone z) (operative z s)
  pub demands : (fixed : FixedRate) (s : State) (bytes : List ℕ) → RefusesOnly (OfZone z) (demand fixed c z s bytes)
  pub hour_steps : (fixed : FixedRate) (version : ℕ) (l : Limits) (s : State) (bytes : List ℕ) → RefusesOnly (OfZone z) (hour_step fixed c z version l s bytes)
  pub updates : (s : State) (bytes : List ℕ) (gains fraction ach : Float) → RefusesOnly (OfZone z) (update_temperatures c z s bytes gains fraction ach)
  pub start_up : RefusesOnly (OfZone z) (init_node_temps c z)

-- which refusals each call can give, for every input
pub record CallRefusals (c : Coefficients) (z : Zone) : Type 0 where
  pub operatives : (s : State) → RefusesOnly OperativeRefusal (operative z s)
  pub demands : (fixed : FixedRate) (s : State) (bytes : List ℕ) → RefusesOnly DemandRefusal (demand fixed c z s bytes)
  pub hour_steps : (fixed : FixedRate) (version : ℕ) (l : Limits) (s : State) (bytes : List ℕ) → RefusesOnly HourRefusal (hour_step fixed c z version l s bytes)
  pub updates : (s : State) (bytes : List ℕ) (gains fraction ach : Float) → RefusesOnly UpdateRefusal (update_temperatures c z s bytes gains fraction ach)
  pub start_ups : RefusesOnly StartUpRefusal (init_node_temps c z)
