-- A zone given as a record, tested as its head would be: 4, then 5.
-- Specification, A zone as a record; Order in a head.
use Rattle.std.specs.Prelude.{ℕ, ◌+◌, Bool, ◌&&◌, List, [], ◌∷◌, take, leb}
use Rattle.solver.specs.Result.{Result, ok, bind, require, require_at}
use Rattle.zone.specs.Record.Numbers.{structure, zone_value}
use Rattle.zone.specs.Record.BuildingElement.{number_of_nodes}
use Rattle.zone.specs.Format.ElementLayout.{h_count, treatments_valid}
use Rattle.zone.specs.Check.Ranges.{area_range, pitch_range, coefficient_range, h_pli_range, k_pli_range, fraction_range, sky_range, delta_r_range}
use Rattle.zone.specs.Check.Ranges.{irradiance_range, temperature_range, heating_setpoint_range, setpoint_range, limit_range, all_in, open_within}
use Rattle.zone.specs.declared.record.building_element.ElementHour.{ElementHour}
use Rattle.zone.specs.declared.record.building_element.Element.{Element}
use Rattle.zone.specs.declared.record.zone_record.Zone.{Zone}

-- each of a list passes a test, or the first that does not is refused; the first of the list has this index
unfoldable pub all_required : {A : Type 0} → (A → Bool) → (number : ℕ) → List A → (index : ℕ) → Result (Unit {0})
all_required test number [] i = ok tt
all_required test number (a ∷ as') i =
    bind (require_at (test a) number i) λ _.
    all_required test number as' (i + 1)

-- the values of an hour's part of an element, but for the open byte
unfoldable pub element_hour_in_range : ElementHour → Bool
element_hour_in_range h =
    temperature_range h.temp_ext
    && irradiance_range h.i_sol_dir
    && irradiance_range h.i_sol_dif
    && fraction_range h.f_sh_dir
    && fraction_range h.f_sh_dif

-- every value that a head would hold of an element
unfoldable pub element_in_range : Element → Bool
element_in_range e =
    area_range e.area
    && pitch_range e.pitch
    && coefficient_range e.h_ce
    && coefficient_range e.h_re
    && coefficient_range e.h_ri
    && fraction_range e.solar_absorption_coeff
    && sky_range e.therm_rad_to_sky
    && (all_in k_pli_range (take (number_of_nodes e.kind) e.k_pli)
    && all_in h_pli_range (take (h_count e.kind) e.h_pli)
    && all_in delta_r_range (take e.treatments e.delta_r)
    && element_hour_in_range e.first_hour
    && open_within e.treatments e.first_hour.treatments_open)

-- the limit and the six floats
unfoldable pub front_in_range : Zone → Bool
front_in_range z =
    limit_range z.start_up_limit
    && area_range z.useful_area
    && area_range z.volume
    && coefficient_range z.tb_heat_trans_coeff
    && temperature_range z.temp_ext_air_init
    && heating_setpoint_range z.temp_setpnt_init
    && setpoint_range z.temp_setpnt_cool_vent_init

-- the first value out of range, in the order of a head's bytes: 5
unfoldable pub values_test : Zone → Result (Unit {0})
values_test z =
    bind (require (front_in_range z) zone_value) λ _.
    all_required element_in_range zone_value (take z.count z.building_elements) 1

-- an element count of 1 to 24
abbrev pub count_valid : ℕ → Bool
count_valid n = leb 1 n && leb n 24

abbrev pub element_treatments_valid : Element → Bool
element_treatments_valid e = treatments_valid e.kind e.treatments

-- the count (index 0), then the treatments of each element (its index): 4
unfoldable pub counts_test : Zone → Result (Unit {0})
counts_test z =
    bind (require (count_valid z.count) structure) λ _.
    all_required element_treatments_valid structure (take z.count z.building_elements) 1

unfoldable pub zone_test : Zone → Result (Unit {0})
zone_test z =
    bind (counts_test z) λ _.
    values_test z
