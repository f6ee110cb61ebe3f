use Rattle.zone.specs.Format.Conditions.{conditions_at}
use Rattle.zone.proofs.format.decode_conditions.conditions_at.Goals as goal

-- field by field
pub returns : goal.returns
unfolding conditions_at
returns c i =
    record {
      delta_t_h = c.front_float.ensures i;
      temp_ext_air = c.front_float-2.ensures i;
      gains_internal = c.front_float-3.ensures i;
      gains_solar = c.front_float-4.ensures i;
      frac_convective_heat = c.front_float-5.ensures i;
      frac_convective_cool = c.front_float-6.ensures i;
      temp_setpnt_heat = c.front_float-7.ensures i;
      temp_setpnt_cool = c.front_float-8.ensures i;
      temp_setpnt_cool_vent = c.front_float-9.ensures i;
      avg_air_supply_temp = c.front_float-10.ensures i;
      gains_heat_cool_convective = c.front_float-11.ensures i;
      gains_heat_cool_radiative = c.front_float-12.ensures i;
      ach_args = c.ach_args_at.ensures i;
      elements = c.element_hours_at.ensures i;
    }
