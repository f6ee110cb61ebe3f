-- Why this rate, why this load: what an answer tells of the hour and of its demand, and where it is refused.
-- Specification, Why this rate, why this load; Fixed rate.
use Rattle.std.specs.Prelude.{ℕ, ◌≡◌, true, false, ◌↔◌, List, [], ◌∷◌, map, Float}
use Rattle.std.specs.Float.Ieee.{lt, eq}
use Rattle.solver.specs.F64.{zero64}
use Rattle.solver.specs.Result.{ok, refused}
use Rattle.solver.specs.Closeness.{close_in_windows_test}
use Rattle.zone.specs.declared.record.building_element.Coefficients.{Coefficients}
use Rattle.zone.specs.declared.record.zone_record.Zone.{Zone}
use Rattle.zone.specs.declared.format.conditions.Conditions.{Conditions}
use Rattle.zone.specs.declared.format.conditions.AirChangesPerHourArgument.TheVariants.{Cooling, TargetAndWindowsOpen}
use Rattle.zone.specs.declared.format.conditions.FixedRate.TheVariants.{StillTaken}
use Rattle.zone.specs.declared.calls.state.State.{State}
use Rattle.zone.specs.declared.calls.state.Demand.{Demand}
use Rattle.zone.specs.declared.calls.state.Reason.{Reason}
use Rattle.zone.specs.declared.calls.state.Reason.TheVariants.{NoChoice, NotAboveVentilationSetpoint, NotAboveSupply, WindowsDoNotCool, StillAboveCoolingSetpoint, WindowsEnough}
use Rattle.zone.specs.declared.calls.state.Load.{Load}
use Rattle.zone.specs.declared.calls.state.Load.TheVariants.{Neither, Heating, Cooling as CoolingLoad}
use Rattle.zone.specs.Physics.Slots.{air}
use Rattle.zone.specs.Hour.Demand.{control_temperature, ach_target, free_temperatures, ach_to_reach}
use Rattle.zone.specs.Calls.State.{slots_of}
use Rattle.zone.specs.Calls.Hour.{tested, demand}
use Rattle.zone.specs.Calls.Why.{why}
use Rattle.zone.specs.Calls.Numbers.{reason_number, load_number}

-- the list of reasons
abbrev pub reasons : List Reason
reasons = NoChoice ∷ NotAboveVentilationSetpoint ∷ NotAboveSupply ∷ WindowsDoNotCool ∷ StillAboveCoolingSetpoint ∷ WindowsEnough ∷ []

-- a reason's number is its place in their list, from 1 on; of the loads neither has 0, heating 1 and cooling 2
pub record WhyNumbers : Type 0 where
  pub of_reasons : map reason_number reasons ≡ 1 ∷ 2 ∷ 3 ∷ 4 ∷ 5 ∷ 6 ∷ []
  pub of_loads : map load_number (Neither ∷ Heating ∷ CoolingLoad ∷ []) ≡ 0 ∷ 1 ∷ 2 ∷ []

-- the earliest of these that holds: those before it in the list do not
pub data Earliest (Holds : Reason → Type 0) : List Reason → Reason → Type 0 where
  this : {r : Reason} {rest : List Reason} → Holds r → Earliest Holds (r ∷ rest) r
  later : {q r : Reason} {rest : List Reason} → (Holds q → ⊥) → Earliest Holds rest r → Earliest Holds (q ∷ rest) r

module _ (c : Coefficients) (z : Zone) (t : List Float) (h : Conditions) where
  -- a target rate and one with windows open, and the temperatures without demand at both
  pub record Windows : Type 0 where
    pub target : Float
    pub windows_open : Float
    pub given : h.ach_args ≡ TargetAndWindowsOpen target windows_open
    pub free : List Float
    pub at_target : free_temperatures c z t h target ≡ ok free
    pub vent_max : List Float
    pub at_open : free_temperatures c z t h windows_open ≡ ok vent_max

  -- the rate found: it reaches the ventilation setpoint
  abbrev pub rate_found : Windows → Float
  rate_found w = ach_to_reach c z t h w.target w.windows_open w.free w.vent_max h.temp_setpnt_cool_vent

  -- each reason by itself
  pub data Holds : Reason → Type 0 where
    -- no choice of rates (code 0, or both equal)
    fixed_rate : {ach : Float} → h.ach_args ≡ Cooling ach → Holds NoChoice
    equal_rates : {target windows_open : Float} → h.ach_args ≡ TargetAndWindowsOpen target windows_open → eq windows_open target ≡ true → Holds NoChoice
    -- free temperature not above the ventilation setpoint
    free_not_above : {free : List Float} → free_temperatures c z t h (ach_target h.ach_args) ≡ ok free
        → lt h.temp_setpnt_cool_vent (control_temperature z free) ≡ false → Holds NotAboveVentilationSetpoint
    -- free air not above the supply
    air_not_above : {free : List Float} → free_temperatures c z t h (ach_target h.ach_args) ≡ ok free
        → lt h.avg_air_supply_temp (air free) ≡ false → Holds NotAboveSupply
    -- windows open would not lower the free temperature
    not_lowered : (w : Windows) → lt (control_temperature z w.vent_max) (control_temperature z w.free) ≡ false → Holds WindowsDoNotCool
    -- with the rate found it is still above the cooling setpoint and not close to it by the windows test
    still_above : (w : Windows) {extra : List Float} → free_temperatures c z t h (rate_found w) ≡ ok extra
        → lt h.temp_setpnt_cool (control_temperature z extra) ≡ true → close_in_windows_test (control_temperature z extra) h.temp_setpnt_cool ≡ false
        → Holds StillAboveCoolingSetpoint
    -- windows enough
    enough : Holds WindowsEnough

  -- what the reason tells of the rate that the demand chose
  pub record RateTold (d : Demand) (reason : Reason) : Type 0 where
    -- windows enough: it is the rate found
    pub found_chosen : reason ≡ WindowsEnough → (w : Windows) × (d.ach_cooling ≡ rate_found w)
    -- any other: it is the target, or the fixed rate
    pub target_chosen : (reason ≡ WindowsEnough → ⊥) → d.ach_cooling ≡ ach_target h.ach_args
    -- so windows are enough exactly where the rate found is chosen, wherever that is another than the target
    pub exactly : (w : Windows) → (rate_found w ≡ ach_target h.ach_args → ⊥) → (d.ach_cooling ≡ rate_found w) ↔ (reason ≡ WindowsEnough)

-- heating, cooling or neither, by the hour's demand: neither exactly where it is zero both ways
pub record LoadTold (d : Demand) (load : Load) : Type 0 where
  pub heating : (load ≡ Load.Heating) ↔ (lt zero64 d.space_heat_demand ≡ true)
  pub cooling : (load ≡ Load.Cooling) ↔ (lt d.space_cool_demand zero64 ≡ true)
  pub neither : (load ≡ Load.Neither) ↔ ((d.space_heat_demand ≡ zero64) × (d.space_cool_demand ≡ zero64))

module _ (c : Coefficients) (z : Zone) where
  -- of the demand of an hour with code 0 too, which a call's demand refuses
  pub record WhyTold (s : State) (bytes : List ℕ) (reason : Reason) (load : Load) : Type 0 where
    pub conditions : Conditions
    pub tests : tested StillTaken z s bytes ≡ ok conditions
    pub demanded : Demand
    pub asked : demand StillTaken c z s bytes ≡ ok demanded
    pub earliest : Earliest (Holds c z (slots_of z s) conditions) reasons reason
    pub rate : RateTold c z (slots_of z s) conditions demanded reason
    pub load_told : LoadTold demanded load

  -- of every answer
  abbrev pub WhyAnswers : Type 0
  WhyAnswers = (s : State) (bytes : List ℕ) (reason : Reason) (load : Load) → why c z s bytes ≡ ok (reason, load) → WhyTold s bytes reason load

  -- An hour that the demand refuses gets that refusal, and no other hour is refused. The demand is the one that still takes code 0; for any
  -- other hour it is the call's (OtherHours of FixedRate.antt)
  abbrev pub WhyRefuses : Type 0
  WhyRefuses = (s : State) (bytes : List ℕ) (number index : ℕ) → (why c z s bytes ≡ refused number index) ↔ (demand StillTaken c z s bytes ≡ refused number index)
