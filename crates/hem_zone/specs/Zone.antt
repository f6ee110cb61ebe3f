-- The calls on a zone: head, start-up, operative temperature, demand, update, hour step. The head is read first, 1 to 5. Each definition gives the returned
-- number, then what stands after the call in the arrays that it was lent to write, in the order of its parameters.
-- Specification, Order of tests; Answers in C.
use Rattle.std.specs.Prelude.{ℕ, List, Float}
use Rattle.zone.specs.Promise.{Result, bind}
use Rattle.zone.specs.declared.record.zone_record.Zone.{Zone}
use Rattle.zone.specs.Record.BuildingElement.{standard_coefficients}
use Rattle.zone.specs.Format.Head.{head_of}
use Rattle.zone.specs.declared.physics.balance.HeatBalance.{HeatBalance}
use Rattle.zone.specs.declared.calls.state.State.{State}
use Rattle.zone.specs.declared.format.conditions.FixedRate.TheVariants.{Retired}
use Rattle.zone.specs.Calls.State.{operative}
use Rattle.zone.specs.Calls.Hour.{HourResult, demand, update_temperatures, hour_step}
use Rattle.zone.specs.Calls.StartUp.{init_node_temps}
use Rattle.hem_zone.specs.Code.{answer_code, answered}
use Rattle.hem_zone.specs.Arrays.{state_in, limits_of, demand_out, balance_out}

-- a call on the zone of a head
unfoldable pub with_zone : {A : Type 0} → (head : List ℕ) → (Zone → Result A) → Result A
with_zone head f = bind (head_of head) λ h. f h.zone

unfoldable pub hem_head_outcome : (head : List ℕ) → ℕ
hem_head_outcome head = answer_code (head_of head)

-- what a start-up writes to `temps` and `nodes`
abbrev pub start_up_out : State → List Float × ℕ
start_up_out s = (s.temps, s.nodes)

unfoldable pub hem_start_up_outcome : (head : List ℕ) → (temps : List Float) → (nodes : ℕ) → ℕ × (List Float × ℕ)
hem_start_up_outcome head temps nodes =
    answered start_up_out (temps, nodes)
    (with_zone head (init_node_temps standard_coefficients))

unfoldable pub hem_demand_outcome : (head : List ℕ) → (temps : List Float) → (nodes : ℕ) → (conditions : List ℕ) → (out : List Float) → ℕ × List Float
hem_demand_outcome head temps nodes conditions out =
    answered demand_out out
    (with_zone head λ z. demand Retired standard_coefficients z (state_in temps nodes) conditions)

-- writes the operative temperature to `operative`
unfoldable pub hem_operative_outcome : (head : List ℕ) → (temps : List Float) → (nodes : ℕ) → (before : Float) → ℕ × Float
hem_operative_outcome head temps nodes before =
    answered (λ t. t) before
    (with_zone head λ z. operative z (state_in temps nodes))

-- what an update writes to `temps` and `balance`
abbrev pub update_out : State × HeatBalance → List Float × List Float
update_out r = (r.0.temps, balance_out r.1)

unfoldable pub hem_update_outcome :
    (head : List ℕ) → (temps : List Float) → (nodes : ℕ) → (conditions : List ℕ) → (gains fraction rate : Float) → (balance : List Float)
    → ℕ × (List Float × List Float)
hem_update_outcome head temps nodes conditions gains fraction rate balance =
    answered update_out (temps, balance)
    (with_zone head λ z. update_temperatures standard_coefficients z (state_in temps nodes) conditions gains fraction rate)

-- what an hour step writes to `temps`, `out` and `balance`
abbrev pub hour_out : HourResult → List Float × List Float × List Float
hour_out r = (r.state.temps, demand_out r.demand, balance_out r.balance)

-- the entry version is the one that the call names, 64 bits wide
unfoldable pub hem_hour_step_outcome :
    (head : List ℕ) → (temps : List Float) → (nodes : ℕ) → (conditions : List ℕ) → (version : ℕ) → (heating_limit cooling_limit : Float) → (out balance : List Float)
    → ℕ × (List Float × List Float × List Float)
hem_hour_step_outcome head temps nodes conditions version heating_limit cooling_limit out balance =
    answered hour_out (temps, out, balance)
    (with_zone head λ z. hour_step Retired standard_coefficients z version (limits_of heating_limit cooling_limit) (state_in temps nodes) conditions)
