-- A prepared hour, in the words of Prepared.antt.
use Rattle.std.specs.Prelude.{ℕ, List, Float}
use Rattle.zone.specs.declared.record.zone_record.Zone.{Zone}
use Rattle.zone.specs.declared.hour.time_step.PreparedHour.{PreparedHour}
use Rattle.zone.specs.declared.hour.control.Control.{Control}
use Rattle.zone.specs.declared.physics.assembly.ElementSums.{ElementSums}
use Rattle.zone.specs.declared.record.building_element.Coefficients.{Coefficients}
use Rattle.zone.specs.Inner.Assembled.{ZoneTerms}
use Rattle.zone.specs.declared.format.conditions.Conditions.{Conditions}
use Rattle.zone.specs.Inner.Operative.{control_by}
use Rattle.zone.specs.Inner.Prepared.{Prepared, prepared}
use Rattle.zone.specs.Inner.Hour.{Hour, hour_with}

-- the zone's terms: of its n elements the sums, then what does not change in the hour
abbrev pub terms_with : Coefficients → (n : ℕ) → ElementSums → (c_int_per_delta_t temp_int_air : Float) → Zone → Conditions → ZoneTerms
terms_with c n sums c_int_per_delta_t temp_int_air z hour =
    record {
      n = n;
      area_el_total = sums.area_el_total;
      c_int_per_delta_t = c_int_per_delta_t;
      convective = sums.convective;
      tb_heat_trans_coeff = z.tb_heat_trans_coeff;
      temp_int_air = temp_int_air;
      temp_ext_air = hour.temp_ext_air;
      avg_supply_temp = hour.avg_air_supply_temp;
      gains_internal = hour.gains_internal;
      gains_solar = hour.gains_solar;
      f_int_c = c.f_int_c;
      f_sol_c = c.f_sol_c;
    }

abbrev pub terms_in : PreparedHour → ZoneTerms
terms_in p = terms_with p.coefficients p.kept.now.factors.chains.n p.kept.now.sums p.c_int_per_delta_t p.temp_int_air p.zone.now p.hour.now

abbrev pub prepared_in : PreparedHour → Prepared
prepared_in p =
    let f = p.kept.now.factors in
    prepared (terms_in p) f.valid f.chains.two_nodes f.chains.diag f.chains.next f.lu.matrix f.lu.interchanges p.kept.now.column p.base.b p.base.inner

-- the temperature that the setpoints are held against
abbrev pub control_in : Control → List Float → Float
control_in c = control_by c.basis c.count c.area c.area_el_total

abbrev pub hour_in : PreparedHour → Hour
hour_in p = hour_with (prepared_in p) p.zone.now (control_in p.control) p.hour.now

-- what the definitions of an hour that is prepared say of this one
module _ {A : Type 0} where
  abbrev pub of_hour : (Prepared → (volume : Float) → (control : List Float → Float) → Conditions → A) → PreparedHour → A
  of_hour f p = f (prepared_in p) p.zone.now.volume (control_in p.control) p.hour.now
