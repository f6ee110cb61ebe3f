-- Ventilation: its heat transfer coefficient, and the air change rate that reaches a temperature, in the original's written order.
-- Specification, Ventilation coefficient; Rate that reaches a temperature.
use Rattle.std.specs.Prelude.{cond, ◌||◌, Float}
use Rattle.std.specs.Float.Ieee.{lt, le, ne}
use Rattle.solver.specs.F64.{◌+ᶠ◌, ◌-ᶠ◌, ◌*ᶠ◌, ◌/ᶠ◌, one64, decimal}
use Rattle.zone.specs.declared.record.material_properties.MaterialProperties.{MaterialProperties}

-- of air the density in kg / litre and the heat capacity in J / (kg.K)
unfoldable pub air_properties : MaterialProperties
air_properties = record { density = decimal 1204 6; specific_heat_capacity = decimal 1006 0 }

unfoldable pub density_kg_per_m3 : MaterialProperties → Float
density_kg_per_m3 m = m.density *ᶠ decimal 1000 0

-- H_ve, in W / K
unfoldable pub calc_vent_heat_transfer_coeff : (volume ach : Float) → Float
calc_vent_heat_transfer_coeff volume ach =
    let q_ve = ach *ᶠ volume /ᶠ decimal 3600 0 in
    density_kg_per_m3 air_properties *ᶠ air_properties.specific_heat_capacity *ᶠ q_ve

-- a NaN becomes the minimum
unfoldable pub or_minimum : (ach ach_min : Float) → Float
or_minimum ach ach_min = cond (ne ach ach) ach_min ach

-- the minimum, then the cap, replaces the value only if strictly beyond it
unfoldable pub raised_to : (ach ach_min : Float) → Float
raised_to ach ach_min = cond (lt ach ach_min) ach_min ach

unfoldable pub capped_at : (ach ach_max : Float) → Float
capped_at ach ach_max = cond (lt ach_max ach) ach_max ach

-- What ends in _min is of the calculation at the rate ach_min, in _max of that at ach_max; temp_ach is the control temperature, temp_int_air the air's. An
-- early answer is neither raised nor capped
unfoldable pub ach_req_to_reach_temperature : (temp_target ach_min ach_max temp_ach_min temp_ach_max temp_int_air_min temp_int_air_max supply : Float) → Float
ach_req_to_reach_temperature temp_target ach_min ach_max temp_ach_min temp_ach_max temp_int_air_min temp_int_air_max supply =
    let frac_interp = (temp_target -ᶠ temp_ach_min) /ᶠ (temp_ach_max -ᶠ temp_ach_min) in
    let temp_int_air_req = temp_int_air_min +ᶠ frac_interp *ᶠ (temp_int_air_max -ᶠ temp_int_air_min) in
    let ach_req =
    (ach_max *ᶠ frac_interp *ᶠ ((temp_int_air_max -ᶠ supply) /ᶠ (temp_int_air_min -ᶠ supply)) +ᶠ ach_min *ᶠ (one64 -ᶠ frac_interp))
    /ᶠ ((temp_int_air_req -ᶠ supply) /ᶠ (temp_int_air_min -ᶠ supply)) in
    cond (le temp_ach_min temp_ach_max || le temp_int_air_min temp_int_air_max || le temp_int_air_min supply) ach_min
    (cond (le temp_int_air_req supply) ach_max (capped_at (raised_to (or_minimum ach_req ach_min) ach_min) ach_max))
