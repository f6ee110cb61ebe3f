-- The demand of an hour with its fixed rate as target and windows open both is that of the hour with the fixed rate.
use Rattle.std.proofs.Common.{◌≡◌, refl, false, List, Float}
use lib.Ieee.{ne}
use Rattle.zone.specs.declared.record.building_element.Coefficients.{Coefficients}
use Rattle.zone.specs.declared.record.zone_record.Zone.{Zone}
use Rattle.zone.specs.declared.format.conditions.Conditions.{Conditions}
use Rattle.zone.specs.declared.format.conditions.AirChangesPerHourArgument.{AirChangesPerHourArgument}
use Rattle.zone.specs.declared.format.conditions.AirChangesPerHourArgument.TheVariants.{Cooling, TargetAndWindowsOpen}
use Rattle.zone.specs.Physics.System.{couplings, matrix_a, vector_b}
use Rattle.zone.specs.Physics.CalcTemperatures.{calc_temperatures}
use Rattle.zone.specs.Hour.Demand.{frac_conv_gains_heat_cool, wanted, frac_upper, calc_cooling_potential_from_ventilation, demand_for_load, space_heat_cool_demand}

-- the same hour with other rates
abbrev pub with_rates : Conditions → AirChangesPerHourArgument → Conditions
with_rates h a =
    record {
      delta_t_h = h.delta_t_h;
      temp_ext_air = h.temp_ext_air;
      gains_internal = h.gains_internal;
      gains_solar = h.gains_solar;
      frac_convective_heat = h.frac_convective_heat;
      frac_convective_cool = h.frac_convective_cool;
      temp_setpnt_heat = h.temp_setpnt_heat;
      temp_setpnt_cool = h.temp_setpnt_cool;
      temp_setpnt_cool_vent = h.temp_setpnt_cool_vent;
      avg_air_supply_temp = h.avg_air_supply_temp;
      gains_heat_cool_convective = h.gains_heat_cool_convective;
      gains_heat_cool_radiative = h.gains_heat_cool_radiative;
      ach_args = a;
      elements = h.elements;
    }

module _ (c : Coefficients) (z : Zone) (t : List Float) (h : Conditions) (r : Float) (fixed : h.ach_args ≡ Cooling r) (number : ne r r ≡ false) where
  pub demand_alike : space_heat_cool_demand c z t (with_rates h (TargetAndWindowsOpen r r)) ≡ space_heat_cool_demand c z t h
  unfolding space_heat_cool_demand calc_cooling_potential_from_ventilation demand_for_load wanted frac_upper frac_conv_gains_heat_cool calc_temperatures couplings matrix_a vector_b
  demand_alike = rw (fixed, number) refl
