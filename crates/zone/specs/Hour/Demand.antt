-- `space_heat_cool_demand`: BS EN ISO 52016-1, 6.5.5.2, steps 1 to 4. Each operation rounds once, in the order written.
-- Specification, Control temperature; Setpoints; Gains that are there already; Free temperature; Windows; Load; Interpolation; What a demand answers.
use Rattle.std.specs.Prelude.{None, Option, Some}
use Rattle.std.specs.Prelude.{cond, not, ◌&&◌, List, Float}
use Rattle.std.specs.Float.Ieee.{lt, ne, neg}
use Rattle.solver.specs.F64.{◌+ᶠ◌, ◌-ᶠ◌, ◌*ᶠ◌, ◌/ᶠ◌, decimal, zero64}
use Rattle.solver.specs.Result.{Result, ok, bind, require}
use Rattle.solver.specs.Closeness.{close_in_demand, close_in_windows_test}
use Rattle.zone.specs.declared.record.building_element.Coefficients.{Coefficients}
use Rattle.zone.specs.declared.record.zone_record.Zone.{Zone}
use Rattle.zone.specs.declared.record.zone_record.ZoneTemperatureControlBasis.{ZoneTemperatureControlBasis}
use Rattle.zone.specs.declared.record.zone_record.ZoneTemperatureControlBasis.TheVariants.{Air, Operative}
use Rattle.zone.specs.declared.format.conditions.Conditions.{Conditions}
use Rattle.zone.specs.declared.format.conditions.AirChangesPerHourArgument.{AirChangesPerHourArgument}
use Rattle.zone.specs.declared.format.conditions.AirChangesPerHourArgument.TheVariants.{Cooling, TargetAndWindowsOpen}
use Rattle.zone.specs.Record.Numbers.{cooling_below_heating, ventilation_below_heating, no_effect}
use Rattle.zone.specs.Physics.Slots.{air}
use Rattle.zone.specs.Physics.Ventilation.{ach_req_to_reach_temperature}
use Rattle.zone.specs.Physics.TempOperative.{temp_operative}
use Rattle.zone.specs.Physics.CalcTemperatures.{calc_temperatures}
use Rattle.zone.specs.declared.calls.state.Demand.{Demand}
use Rattle.zone.specs.declared.hour.windows.VentilationChoice.{VentilationChoice}
use Rattle.zone.specs.declared.hour.load.HeatCoolLoad.{HeatCoolLoad}

-- the temperature that the setpoints are held against, by the zone's control basis
abbrev pub temperature_by : ZoneTemperatureControlBasis → Zone → List Float → Float
temperature_by Air z t = air t
temperature_by Operative z t = temp_operative z t

unfoldable pub control_temperature : Zone → List Float → Float
control_temperature z t = temperature_by z.temp_setpnt_basis z t

-- the rate without windows: the target, or the fixed rate
abbrev pub ach_target : AirChangesPerHourArgument → Float
ach_target (Cooling ach) = ach
ach_target (TargetAndWindowsOpen target windows) = target

-- ---- the hour's numbers

-- the length of the step in seconds
abbrev pub delta_t : Conditions → Float
delta_t h = h.delta_t_h *ᶠ decimal 3600 0

-- the gains from heating or cooling that are there before any demand, and their convective fraction
abbrev pub gains_heat_cool : Conditions → Float
gains_heat_cool h = h.gains_heat_cool_convective +ᶠ h.gains_heat_cool_radiative

-- a part's share of the whole, 0 where the whole is close to 0
unfoldable pub share_or_zero : (part whole : Float) → Float
share_or_zero part whole = cond (close_in_demand whole zero64) zero64 (part /ᶠ whole)

unfoldable pub frac_conv_gains_heat_cool : Conditions → Float
frac_conv_gains_heat_cool h = share_or_zero h.gains_heat_cool_convective (gains_heat_cool h)

-- what ventilation makes of the hour: the free temperature, the chosen rate, the rate that triggers heating
abbrev pub ventilated : (temp_free ach : Float) → Option Float → VentilationChoice
ventilated temp_free ach trigger =
    record { temp_free = temp_free; ach_cooling = ach; ach_to_trigger_heating = trigger }

-- ---- the demand

-- cooling above the cooling setpoint, heating below the heating setpoint; neither where close to the cooling setpoint
unfoldable pub wanted : (useful_area : Float) → Conditions → (temp_free : Float) → Option HeatCoolLoad
wanted useful_area h temp_free =
    cond (lt h.temp_setpnt_cool temp_free && not (close_in_demand temp_free h.temp_setpnt_cool))
    (Some (record { setpoint = h.temp_setpnt_cool; load = neg (decimal 10 0) *ᶠ useful_area; fraction = h.frac_convective_cool }))
    (cond (lt temp_free h.temp_setpnt_heat && not (close_in_demand temp_free h.temp_setpnt_cool))
    (Some (record { setpoint = h.temp_setpnt_heat; load = decimal 10 0 *ᶠ useful_area; fraction = h.frac_convective_heat }))
    None)

-- the gains with the load, and their convective fraction
abbrev pub gains_upper : Conditions → (load : Float) → Float
gains_upper h load = gains_heat_cool h +ᶠ load

unfoldable pub frac_upper : Conditions → (load fraction : Float) → Float
frac_upper h load fraction = (gains_heat_cool h *ᶠ frac_conv_gains_heat_cool h +ᶠ load *ᶠ fraction) /ᶠ gains_upper h load

-- the demand in kWh, heating positive, cooling negative, by interpolation between the free and the loaded temperature
unfoldable pub interp_heat_cool_demand : (delta_t_h setpoint load temp_free temp_upper : Float) → Result Float
interp_heat_cool_demand delta_t_h setpoint load temp_free temp_upper =
    bind (require (not (close_in_demand (temp_upper -ᶠ temp_free) zero64)) no_effect) λ _.
    ok (cond (close_in_demand setpoint temp_free) zero64
    (load *ᶠ (setpoint -ᶠ temp_free) /ᶠ (temp_upper -ᶠ temp_free) /ᶠ decimal 1000 0 *ᶠ delta_t_h))

unfoldable pub demand_record : (kwh : Float) → VentilationChoice → Demand
demand_record kwh v =
    record {
      space_heat_demand = cond (lt kwh zero64) zero64 (cond (lt zero64 kwh) kwh zero64);
      space_cool_demand = cond (lt kwh zero64) kwh zero64;
      ach_cooling = v.ach_cooling;
      ach_to_trigger_heating = v.ach_to_trigger_heating;
    }

-- ---- the whole. c: the standard coefficients; z: the zone; t: the node temperatures before the hour; h: the hour's conditions
module _ (c : Coefficients) (z : Zone) (t : List Float) (h : Conditions) where
  -- node temperatures after the hour, by heating or cooling gains, their convective fraction and the air change rate
  abbrev pub temperatures_with : (gains fraction ach : Float) → Result (List Float)
  temperatures_with gains fraction ach = calc_temperatures c z t h (delta_t h) gains fraction ach

  -- the same without demand
  abbrev pub free_temperatures : (ach : Float) → Result (List Float)
  free_temperatures ach = temperatures_with (gains_heat_cool h) (frac_conv_gains_heat_cool h) ach

  -- the rate that brings the control temperature to a wanted one, by the calculations at the target rate and with windows open
  unfoldable pub ach_to_reach : (target windows_open : Float) (free vent_max : List Float) → (temperature : Float) → Float
  ach_to_reach target windows_open free vent_max temperature =
      ach_req_to_reach_temperature temperature target windows_open (control_temperature z free) (control_temperature z vent_max)
      (air free) (air vent_max) h.avg_air_supply_temp

  -- `calc_cooling_potential_from_ventilation`. free: the temperatures at the rate without windows. Where windows open give another rate, the
  -- calculation with it is always made. The windows are used where they cool; where they do not, or the temperature with them is still above the cooling
  -- setpoint, target rate and free temperature stay. The rate that triggers heating is given in each of these cases
  unfoldable pub calc_cooling_potential_from_ventilation : (free : List Float) → AirChangesPerHourArgument → Result VentilationChoice
  calc_cooling_potential_from_ventilation free (Cooling ach) = ok (ventilated (control_temperature z free) ach None)
  calc_cooling_potential_from_ventilation free (TargetAndWindowsOpen target windows_open) =
      let temp_free = control_temperature z free in
      cond (ne windows_open target)
      (bind (free_temperatures windows_open) λ vent_max.
      let reach = ach_to_reach target windows_open free vent_max in
      let trigger = Some (reach h.temp_setpnt_heat) in
      let kept = ventilated temp_free target trigger in
      cond (lt (control_temperature z vent_max) temp_free && lt h.temp_setpnt_cool_vent temp_free && lt h.avg_air_supply_temp (air free))
      (let ach = reach h.temp_setpnt_cool_vent in
      bind (free_temperatures ach) λ extra.
      let temp_extra = control_temperature z extra in
      let too_warm = lt h.temp_setpnt_cool temp_extra && not (close_in_windows_test temp_extra h.temp_setpnt_cool) in
      ok (cond too_warm kept (ventilated temp_extra ach trigger)))
      (ok kept))
      (ok (ventilated temp_free target None))

  -- the load that is wanted is tried in a second calculation, and the demand found between the two
  unfoldable pub demand_for_load : VentilationChoice → Option HeatCoolLoad → Result Demand
  demand_for_load v None = ok (demand_record zero64 v)
  demand_for_load v (Some w) =
      bind (temperatures_with (gains_upper h w.load) (frac_upper h w.load w.fraction) v.ach_cooling) λ upper.
      bind (interp_heat_cool_demand h.delta_t_h w.setpoint w.load v.temp_free (control_temperature z upper)) λ kwh.
      ok (demand_record kwh v)

  unfoldable pub space_heat_cool_demand : Result Demand
  space_heat_cool_demand =
      bind (require (not (lt h.temp_setpnt_cool h.temp_setpnt_heat)) cooling_below_heating) λ _.
      bind (require (not (lt h.temp_setpnt_cool_vent h.temp_setpnt_heat)) ventilation_below_heating) λ _.
      bind (free_temperatures (ach_target h.ach_args)) λ free.
      bind (calc_cooling_potential_from_ventilation free h.ach_args) λ v.
      demand_for_load v (wanted z.useful_area h v.temp_free)
