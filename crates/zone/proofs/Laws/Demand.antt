-- What an accepted demand is made of: the choice of a rate, which it keeps, and so many kWh.
use Rattle.std.proofs.Common.{◌≡◌, refl, sym, ap, ◌∙◌, not, List, Float}
use Rattle.std.specs.Prelude.{Option, Some, None}
use lib.Ieee.{lt}
use Rattle.solver.specs.F64.{zero64}
use Rattle.solver.specs.Result.{ok, require}
use Rattle.solver.proofs.Promise.{bind_ok, ok_inj}
use Rattle.zone.specs.declared.record.building_element.Coefficients.{Coefficients}
use Rattle.zone.specs.declared.record.zone_record.Zone.{Zone}
use Rattle.zone.specs.declared.format.conditions.Conditions.{Conditions}
use Rattle.zone.specs.declared.calls.state.Demand.{Demand}
use Rattle.zone.specs.declared.hour.windows.VentilationChoice.{VentilationChoice}
use Rattle.zone.specs.declared.hour.load.HeatCoolLoad.{HeatCoolLoad}
use Rattle.zone.specs.Record.Numbers as Number
use Rattle.zone.specs.Hour.Demand.{control_temperature, ach_target, wanted, gains_upper, frac_upper, interp_heat_cool_demand, demand_record, temperatures_with, free_temperatures, calc_cooling_potential_from_ventilation, demand_for_load, space_heat_cool_demand}

-- the chosen rate stands in the demand
pub by_rate : (kwh : Float) (v : VentilationChoice) → (demand_record kwh v).ach_cooling ≡ v.ach_cooling
unfolding demand_record
by_rate kwh v = refl

module _ (c : Coefficients) (z : Zone) (t : List Float) (h : Conditions) where
  demand_of : (v : VentilationChoice) (w : Option HeatCoolLoad) (d : Demand) → demand_for_load c z t h v w ≡ ok d → (kwh : Float) × (demand_record kwh v ≡ d)
  unfolding demand_for_load
  demand_of v None d e = (zero64, ok_inj e)
  demand_of v (Some w) d e =
      let upper = bind_ok (temperatures_with c z t h (gains_upper h w.load) (frac_upper h w.load w.fraction) v.ach_cooling) _ d e in
      let kwh = bind_ok (interp_heat_cool_demand h.delta_t_h w.setpoint w.load v.temp_free (control_temperature z upper.0)) _ d upper.2 in
      (kwh.0, ok_inj kwh.2)

  pub towards_rate : (v : VentilationChoice) (w : Option HeatCoolLoad) (d : Demand) → demand_for_load c z t h v w ≡ ok d → d.ach_cooling ≡ v.ach_cooling
  towards_rate v w d e =
      let k = demand_of v w d e in
      sym (ap (λ (x : Demand). x.ach_cooling) k.1) ∙ by_rate k.0 v

  pub record Made (d : Demand) : Type 0 where
    pub free : List Float
    pub solved : free_temperatures c z t h (ach_target h.ach_args) ≡ ok free
    pub choice : VentilationChoice
    pub chosen : calc_cooling_potential_from_ventilation c z t h free h.ach_args ≡ ok choice
    pub kwh : Float
    pub made : demand_record kwh choice ≡ d

  pub demand_made : (d : Demand) → space_heat_cool_demand c z t h ≡ ok d → Made d
  unfolding space_heat_cool_demand
  demand_made d e =
      let ten = bind_ok (require (not (lt h.temp_setpnt_cool h.temp_setpnt_heat)) Number.cooling_below_heating) _ d e in
      let eleven = bind_ok (require (not (lt h.temp_setpnt_cool_vent h.temp_setpnt_heat)) Number.ventilation_below_heating) _ d ten.2 in
      let free = bind_ok (free_temperatures c z t h (ach_target h.ach_args)) _ d eleven.2 in
      let v = bind_ok (calc_cooling_potential_from_ventilation c z t h free.0 h.ach_args) _ d free.2 in
      let k = demand_of v.0 (wanted z.useful_area h v.0.temp_free) d v.2 in
      record { free = free.0; solved = free.1; choice = v.0; chosen = v.1; kwh = k.0; made = k.1 }
