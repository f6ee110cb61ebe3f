-- Why this rate, why this load: from the node temperatures before an hour and its conditions, the earliest of six reasons that holds
-- of the hour's demand. The temperatures, the rate found and the closeness are the demand's own (Hour/Demand.antt).
-- Specification, Why this rate, why this load; Fixed rate.
use Rattle.std.specs.Prelude.{ℕ, cond, not, ◌&&◌, List, Float}
use Rattle.std.specs.Float.Ieee.{lt, eq}
use Rattle.solver.specs.F64.{zero64}
use Rattle.solver.specs.Result.{Result, ok, bind}
use Rattle.solver.specs.Closeness.{close_in_windows_test}
use Rattle.zone.specs.declared.record.building_element.Coefficients.{Coefficients}
use Rattle.zone.specs.declared.record.zone_record.Zone.{Zone}
use Rattle.zone.specs.declared.format.conditions.Conditions.{Conditions}
use Rattle.zone.specs.declared.format.conditions.FixedRate.TheVariants.{StillTaken}
use Rattle.zone.specs.declared.format.conditions.AirChangesPerHourArgument.{AirChangesPerHourArgument}
use Rattle.zone.specs.declared.format.conditions.AirChangesPerHourArgument.TheVariants.{Cooling, TargetAndWindowsOpen}
use Rattle.zone.specs.declared.calls.state.State.{State}
use Rattle.zone.specs.declared.calls.state.Demand.{Demand}
use Rattle.zone.specs.declared.calls.state.Reason.{Reason}
use Rattle.zone.specs.declared.calls.state.Reason.TheVariants.{NoChoice, NotAboveVentilationSetpoint, NotAboveSupply, WindowsDoNotCool, StillAboveCoolingSetpoint, WindowsEnough}
use Rattle.zone.specs.declared.calls.state.Load.{Load}
use Rattle.zone.specs.declared.calls.state.Load.TheVariants.{Neither, Heating, Cooling as CoolingLoad}
use Rattle.zone.specs.Physics.Slots.{air}
use Rattle.zone.specs.Hour.Demand.{control_temperature, free_temperatures, ach_to_reach, space_heat_cool_demand}
use Rattle.zone.specs.Calls.State.{slots_of}
use Rattle.zone.specs.Calls.Hour.{tested}

-- heating, cooling or neither, by the hour's demand
unfoldable pub load_of : Demand → Load
load_of d = cond (lt zero64 d.space_heat_demand) Heating (cond (lt d.space_cool_demand zero64) CoolingLoad Neither)

-- c: the standard coefficients; z: the zone; t: the node temperatures before the hour; h: the hour's conditions
module _ (c : Coefficients) (z : Zone) (t : List Float) (h : Conditions) where
  -- the reasons in their order: no choice of rates (code 0, or both equal); free temperature not above the ventilation setpoint; free air not above the
  -- supply; windows open would not lower the free temperature; with the rate found it is still above the cooling setpoint and not close to it by the windows
  -- test; windows enough. Free is at the target rate; the rate found is the one that reaches the ventilation setpoint
  unfoldable pub reason_for : AirChangesPerHourArgument → Result Reason
  reason_for (Cooling ach) = ok NoChoice
  reason_for (TargetAndWindowsOpen target windows_open) =
      cond (eq windows_open target) (ok NoChoice) (
      bind (free_temperatures c z t h target) λ free.
      let temp_free = control_temperature z free in
      cond (not (lt h.temp_setpnt_cool_vent temp_free)) (ok NotAboveVentilationSetpoint) (
      cond (not (lt h.avg_air_supply_temp (air free))) (ok NotAboveSupply) (
      bind (free_temperatures c z t h windows_open) λ vent_max.
      cond (not (lt (control_temperature z vent_max) temp_free)) (ok WindowsDoNotCool) (
      bind (free_temperatures c z t h (ach_to_reach c z t h target windows_open free vent_max h.temp_setpnt_cool_vent)) λ extra.
      let temp_extra = control_temperature z extra in
      cond (lt h.temp_setpnt_cool temp_extra && not (close_in_windows_test temp_extra h.temp_setpnt_cool)) (ok StillAboveCoolingSetpoint)
      (ok WindowsEnough)))))

  -- Beside it stands heating, cooling or neither, by the hour's demand. An hour that the demand refuses gets that refusal.
  unfoldable pub why_of : Result (Reason × Load)
  why_of =
      bind (space_heat_cool_demand c z t h) λ d.
      bind (reason_for h.ach_args) λ reason.
      ok (reason, load_of d)

-- from a state and the conditions' bytes: the demand's tests first; of an hour with code 0 reasons are still told
unfoldable pub why : Coefficients → Zone → State → List ℕ → Result (Reason × Load)
why c z s bytes =
    bind (tested StillTaken z s bytes) λ h.
    why_of c z (slots_of z s) h
