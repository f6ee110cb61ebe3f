-- Update, demand and hour step: the tests in their order, then the calculation.
-- Specification, Order of tests; Update; Hour step; Entry versions; Limits of the plant; Fixed rate.
use Rattle.std.specs.Prelude.{ℕ, Bool, true, ◌&&◌, cond, List, leb, Float}
use Rattle.std.specs.Float.Ieee.{neg, lt}
use Rattle.solver.specs.F64.{◌+ᶠ◌, ◌*ᶠ◌, ◌/ᶠ◌, decimal, zero64}
use Rattle.solver.specs.Result.{Result, ok, bind, require}
use Rattle.zone.specs.declared.record.building_element.Coefficients.{Coefficients}
use Rattle.zone.specs.declared.record.zone_record.Zone.{Zone}
use Rattle.zone.specs.declared.format.conditions.Conditions.{Conditions}
use Rattle.zone.specs.declared.format.conditions.FixedRate.{FixedRate}
use Rattle.zone.specs.declared.format.conditions.FixedRate.TheVariants.{Retired}
use Rattle.zone.specs.declared.format.limits.Limits.{Limits}
use Rattle.zone.specs.Record.Numbers.{conditions_value, false_entry, limit_value}
use Rattle.zone.specs.Check.ZoneTest.{zone_test}
use Rattle.zone.specs.Check.Ranges.{gains_range, fraction_range, rate_range, power_limit_range}
use Rattle.zone.specs.Format.Conditions.{conditions_of}
use Rattle.zone.specs.declared.physics.balance.HeatBalance.{HeatBalance}
use Rattle.zone.specs.Physics.CalcTemperatures.{calc_temperatures}
use Rattle.zone.specs.Physics.HeatBalance.{heat_balance}
use Rattle.zone.specs.declared.calls.state.State.{State}
use Rattle.zone.specs.declared.calls.state.Demand.{Demand}
use Rattle.zone.specs.Calls.State.{state_test, slots_of, state_of}
use Rattle.zone.specs.Hour.Demand.{delta_t, gains_heat_cool, share_or_zero, space_heat_cool_demand}

-- the tests that demand, update and hour step share: 6, then the conditions' 7, 8, 9; `fixed` says whether code 0 is one of the 8s
unfoldable pub tested_hour : FixedRate → Zone → State → List ℕ → Result Conditions
tested_hour fixed z s bytes =
    bind (state_test z s) λ _.
    conditions_of fixed z bytes

-- those of demand and update: before them the zone's 4, 5
unfoldable pub tested : FixedRate → Zone → State → List ℕ → Result Conditions
tested fixed z s bytes =
    bind (zone_test z) λ _.
    tested_hour fixed z s bytes

-- one time step: the new state and the heat balance
unfoldable pub step : Coefficients → Zone → State → Conditions → (gains fraction ach : Float) → Result (State × HeatBalance)
step c z s h gains fraction ach =
    let dt = delta_t h in
    bind (calc_temperatures c z (slots_of z s) h dt gains fraction ach) λ t.
    ok (state_of z t, heat_balance c z (slots_of z s) h dt gains fraction ach t)

-- `update_temperatures`: behind the conditions its own gains, fraction and rate are tested (9, index 0); then the step
unfoldable pub update_temperatures : Coefficients → Zone → State → List ℕ → (gains fraction ach : Float) → Result (State × HeatBalance)
update_temperatures c z s bytes gains fraction ach =
    bind (tested Retired z s bytes) λ h.
    bind (require (gains_range gains && fraction_range fraction && rate_range ach) conditions_value) λ _.
    step c z s h gains fraction ach

-- demand, from a state and the conditions' bytes
unfoldable pub demand : FixedRate → Coefficients → Zone → State → List ℕ → Result Demand
demand fixed c z s bytes =
    bind (tested fixed z s bytes) λ h.
    space_heat_cool_demand c z (slots_of z s) h

-- ---- hour step: the demand is met, by the rule of the entry version that the call names

-- the versions that hours have: 1 to 3
abbrev pub first_version : ℕ
first_version = 1

abbrev pub newest_version : ℕ
newest_version = 3

abbrev pub hour_version : (version : ℕ) → Bool
hour_version version = leb first_version version && leb version newest_version

-- from version 3 on an hour has limits; an hour of an earlier version has none, and those of the call are not looked at
abbrev pub limits_version : ℕ
limits_version = 3

abbrev pub has_limits : (version : ℕ) → Bool
has_limits version = leb limits_version version

-- greatest heating and greatest cooling in watts, 0 to 1e7
abbrev pub power_limits_range : Limits → Bool
power_limits_range l = power_limit_range l.heating && power_limit_range l.cooling

abbrev pub limits_valid : (version : ℕ) → Limits → Bool
limits_valid version l = cond (has_limits version) (power_limits_range l) true

-- 6 to 9, then 19 for a limit out of range
unfoldable pub tested_hour_and_limits : FixedRate → Zone → (version : ℕ) → Limits → State → List ℕ → Result Conditions
tested_hour_and_limits fixed z version l s bytes =
    bind (tested_hour fixed z s bytes) λ h.
    bind (require (limits_valid version l) limit_value) λ _.
    ok h

-- the tests of an hour step: the zone's 4, 5; then 18, index 0, for a version that no hour has; then 6 to 9 and 19
unfoldable pub tested_step : FixedRate → Zone → (version : ℕ) → Limits → State → List ℕ → Result Conditions
tested_step fixed z version l s bytes =
    bind (zone_test z) λ _.
    bind (require (hour_version version) false_entry) λ _.
    tested_hour_and_limits fixed z version l s bytes

-- what the demand delivers in W, with no limit
unfoldable pub delivered : Conditions → Demand → Float
delivered h d = (d.space_heat_demand +ᶠ d.space_cool_demand) *ᶠ decimal 1000 0 /ᶠ h.delta_t_h

-- a delivered power strictly beyond a limit becomes the limit, one of cooling with a minus
unfoldable pub limited : Limits → (w : Float) → Float
limited l w = cond (lt l.heating w) l.heating (cond (lt w (neg l.cooling)) (neg l.cooling) w)

-- what is delivered in W, by the rule of a version
unfoldable pub delivered_by : (version : ℕ) → Limits → Conditions → Demand → Float
delivered_by version l h d = cond (has_limits version) (limited l (delivered h d)) (delivered h d)

-- Version 1 has the heating fraction for all power. From version 2 on, delivered power below 0 has the cooling fraction, any other the heating fraction; in
-- version 3 that is the power w after the limits.
abbrev pub cooling_fraction_version : ℕ
cooling_fraction_version = 2

unfoldable pub delivered_fraction : (version : ℕ) → Conditions → (w : Float) → Float
delivered_fraction version h w = cond (leb cooling_fraction_version version && lt w zero64) h.frac_convective_cool h.frac_convective_heat

-- the convective share of the total gains g, 0 where g is close to 0
unfoldable pub convective_share : (version : ℕ) → Conditions → (w g : Float) → Float
convective_share version h w g = share_or_zero (h.gains_heat_cool_convective +ᶠ w *ᶠ delivered_fraction version h w) g

-- the demand, the state after the hour, and the heat balance
pub record HourResult : Type 0 where
  pub demand : Demand
  pub state : State
  pub balance : HeatBalance

-- The demand is reported uncut. A call's hour step refuses the fixed rate; an entry is judged by what the hour step would give without this refusal
unfoldable pub hour_step : FixedRate → Coefficients → Zone → (version : ℕ) → Limits → State → List ℕ → Result HourResult
hour_step fixed c z version l s bytes =
    bind (tested_step fixed z version l s bytes) λ h.
    bind (space_heat_cool_demand c z (slots_of z s) h) λ d.
    let w = delivered_by version l h d in
    let g = gains_heat_cool h +ᶠ w in
    bind (step c z s h g (convective_share version h w g) d.ach_cooling) λ r.
    ok (record { demand = d; state = r.0; balance = r.1 })
