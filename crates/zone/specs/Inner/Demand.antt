-- `calc_cooling_potential_from_ventilation` and `space_heat_cool_demand` in the parts that the code has, of an hour that is prepared: each is given the last
-- column of the rate before it, and hands on that of the rate that it leaves. prepared_demand (proofs/Laws/PreparedDemand.antt) ties them to the definitions.
use Rattle.std.specs.Prelude.{None, Option, Some}
use Rattle.std.specs.Prelude.{Bool, cond, not, ◌&&◌, List, Float}
use Rattle.std.specs.Float.Ieee.{lt, ne}
use Rattle.solver.specs.Result.{Result, ok, bind, require}
use Rattle.solver.specs.Closeness.{close_in_windows_test}
use Rattle.zone.specs.declared.format.conditions.Conditions.{Conditions}
use Rattle.zone.specs.declared.format.conditions.AirChangesPerHourArgument.{AirChangesPerHourArgument}
use Rattle.zone.specs.declared.format.conditions.AirChangesPerHourArgument.TheVariants.{Cooling, TargetAndWindowsOpen}
use Rattle.zone.specs.declared.calls.state.Demand.{Demand}
use Rattle.zone.specs.declared.hour.windows.ZoneTemperatures.{ZoneTemperatures}
use Rattle.zone.specs.declared.hour.windows.VentilationChoice.{VentilationChoice}
use Rattle.zone.specs.Physics.Slots.{air}
use Rattle.zone.specs.Physics.Ventilation.{ach_req_to_reach_temperature}
use Rattle.solver.specs.F64.{zero64}
use Rattle.solver.specs.Promise.{solved_res}
use Rattle.zone.specs.declared.hour.load.HeatCoolLoad.{HeatCoolLoad}
use Rattle.zone.specs.Record.Numbers.{cooling_below_heating, ventilation_below_heating}
use Rattle.zone.specs.Physics.Ventilation.{calc_vent_heat_transfer_coeff}
use Rattle.zone.specs.Hour.Demand.{ventilated, wanted, ach_target, gains_upper, frac_upper, interp_heat_cool_demand, demand_record}
use Rattle.zone.specs.Inner.Prepared.{Prepared, load_in, free_in}

-- of a calculation's temperatures, what the choice of a rate looks at
abbrev pub zone_temperatures : (control : List Float → Float) → List Float → ZoneTemperatures
zone_temperatures control t = record { temp_control = control t; temp_int_air = air t }

-- the rate that brings the control temperature to a wanted one
unfoldable pub rate_to_reach : Conditions → (target windows_open : Float) (free vent_max : ZoneTemperatures) → (temperature : Float) → Float
rate_to_reach h target windows_open free vent_max temperature =
    ach_req_to_reach_temperature temperature target windows_open free.temp_control vent_max.temp_control
    free.temp_int_air vent_max.temp_int_air h.avg_air_supply_temp

unfoldable pub windows_cool : Conditions → (free vent_max : ZoneTemperatures) → Bool
windows_cool h free vent_max =
    lt vent_max.temp_control free.temp_control
    && lt h.temp_setpnt_cool_vent free.temp_control
    && lt h.avg_air_supply_temp free.temp_int_air

module _ (p : Prepared) (volume : Float) (control : List Float → Float) (h : Conditions) where
  -- the calculation with the rate that windows need: it is chosen, or the cooling system is used
  unfoldable pub cool_by_windows : (target temp_free ach : Float) → Option Float → (last : List Float) → Result (VentilationChoice × List Float)
  cool_by_windows target temp_free ach trigger last =
      bind (free_in p volume h ach) λ extra.
      let temp_extra = control extra.0 in
      ok (cond (lt h.temp_setpnt_cool temp_extra && not (close_in_windows_test temp_extra h.temp_setpnt_cool))
      (ventilated temp_free target trigger, last)
      (ventilated temp_extra ach trigger, extra.1))

  -- a choice of rates, by the calculations at the target rate and with windows open
  unfoldable pub with_choice : (target windows_open : Float) (free vent_max : ZoneTemperatures) (last : List Float) → Result (VentilationChoice × List Float)
  with_choice target windows_open free vent_max last =
      let reach = rate_to_reach h target windows_open free vent_max in
      let trigger = Some (reach h.temp_setpnt_heat) in
      cond (windows_cool h free vent_max)
      (cool_by_windows target free.temp_control (reach h.temp_setpnt_cool_vent) trigger last)
      (ok (ventilated free.temp_control target trigger, last))

  unfoldable pub choose_rate : (target windows_open : Float) (free : ZoneTemperatures) (last : List Float) → Result (VentilationChoice × List Float)
  choose_rate target windows_open free last =
      bind (free_in p volume h windows_open) λ vent_max.
      with_choice target windows_open free (zone_temperatures control vent_max.0) last

  unfoldable pub cooling_potential : (free : ZoneTemperatures) → AirChangesPerHourArgument → (last : List Float) → Result (VentilationChoice × List Float)
  cooling_potential free (Cooling ach) last = ok (ventilated free.temp_control ach None, last)
  cooling_potential free (TargetAndWindowsOpen target windows_open) last =
      cond (ne windows_open target)
      (choose_rate target windows_open free last)
      (ok (ventilated free.temp_control target None, last))

  -- the demand, by the last column of the chosen rate
  unfoldable pub loaded_demand : VentilationChoice → Option HeatCoolLoad → (last : List Float) → Result Demand
  loaded_demand v None last = ok (demand_record zero64 v)
  loaded_demand v (Some w) last =
      bind (solved_res (load_in p last (calc_vent_heat_transfer_coeff volume v.ach_cooling) (gains_upper h w.load) (frac_upper h w.load w.fraction))) λ upper.
      bind (interp_heat_cool_demand h.delta_t_h w.setpoint w.load v.temp_free (control upper)) λ kwh.
      ok (demand_record kwh v)

  -- from the temperatures of the calculation at the rate without windows
  unfoldable pub demand_from_free : (useful_area : Float) (free : ZoneTemperatures) (last : List Float) → Result (Demand × List Float)
  demand_from_free useful_area free last =
      bind (cooling_potential free h.ach_args last) λ v.
      bind (loaded_demand v.0 (wanted useful_area h v.0.temp_free) v.1) λ d.
      ok (d, v.1)

  unfoldable pub demand_in : (useful_area : Float) → Result (Demand × List Float)
  demand_in useful_area =
      bind (require (not (lt h.temp_setpnt_cool h.temp_setpnt_heat)) cooling_below_heating) λ _.
      bind (require (not (lt h.temp_setpnt_cool_vent h.temp_setpnt_heat)) ventilation_below_heating) λ _.
      bind (free_in p volume h (ach_target h.ach_args)) λ free.
      demand_from_free useful_area (zone_temperatures control free.0) free.1
