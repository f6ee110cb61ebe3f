-- `reason_for` in the parts that the code has: of each calculation the control temperature and the air's. reason_in_lem (proofs/Laws/Why.antt) ties them to the definition.
use Rattle.std.specs.Prelude.{cond, not, ◌&&◌, List, Float}
use Rattle.std.specs.Float.Ieee.{lt, eq}
use Rattle.solver.specs.Result.{Result, ok, bind}
use Rattle.solver.specs.Closeness.{close_in_windows_test}
use Rattle.zone.specs.declared.record.zone_record.Zone.{Zone}
use Rattle.zone.specs.declared.format.conditions.Conditions.{Conditions}
use Rattle.zone.specs.declared.format.conditions.AirChangesPerHourArgument.{AirChangesPerHourArgument}
use Rattle.zone.specs.declared.format.conditions.AirChangesPerHourArgument.TheVariants.{Cooling, TargetAndWindowsOpen}
use Rattle.zone.specs.declared.calls.state.Reason.{Reason}
use Rattle.zone.specs.declared.calls.state.Reason.TheVariants.{NoChoice, NotAboveVentilationSetpoint, NotAboveSupply, WindowsDoNotCool, StillAboveCoolingSetpoint, WindowsEnough}
use Rattle.zone.specs.declared.hour.windows.ZoneTemperatures.{ZoneTemperatures}
use Rattle.zone.specs.declared.record.building_element.Coefficients.{Coefficients}
use Rattle.zone.specs.Hour.Demand.{control_temperature, free_temperatures}
use Rattle.zone.specs.Inner.Demand.{zone_temperatures, rate_to_reach}

module _ (c : Coefficients) (z : Zone) (t : List Float) (h : Conditions) where
  -- the calculation without demand at a rate
  unfoldable pub free_at : (ach : Float) → Result ZoneTemperatures
  free_at ach = bind (free_temperatures c z t h ach) λ x. ok (zone_temperatures (control_temperature z) x)

  unfoldable pub found_reason : (ach : Float) → Result Reason
  found_reason ach =
      bind (free_at ach) λ extra.
      ok (cond (lt h.temp_setpnt_cool extra.temp_control && not (close_in_windows_test extra.temp_control h.temp_setpnt_cool))
      StillAboveCoolingSetpoint WindowsEnough)

  unfoldable pub open_reason : (target windows_open : Float) → ZoneTemperatures → Result Reason
  open_reason target windows_open free =
      bind (free_at windows_open) λ vent_max.
      cond (not (lt vent_max.temp_control free.temp_control)) (ok WindowsDoNotCool)
      (found_reason (rate_to_reach h target windows_open free vent_max h.temp_setpnt_cool_vent))

  unfoldable pub choice_reason : (target windows_open : Float) → Result Reason
  choice_reason target windows_open =
      bind (free_at target) λ free.
      cond (not (lt h.temp_setpnt_cool_vent free.temp_control)) (ok NotAboveVentilationSetpoint)
      (cond (not (lt h.avg_air_supply_temp free.temp_int_air)) (ok NotAboveSupply)
      (open_reason target windows_open free))

  unfoldable pub reason_in : AirChangesPerHourArgument → Result Reason
  reason_in (Cooling ach) = ok NoChoice
  reason_in (TargetAndWindowsOpen target windows_open) = cond (eq windows_open target) (ok NoChoice) (choice_reason target windows_open)
