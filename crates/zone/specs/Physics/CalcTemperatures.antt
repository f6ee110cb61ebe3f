-- `calc_temperatures`: the temperatures after a time step, in their slots, or 12 or 13.
-- Specification, What a step is given; Refusals of a solve.
use Rattle.std.specs.Prelude.{List, Float}
use Rattle.solver.specs.Result.{Result}
use Rattle.solver.specs.FastSolver.{solve}
use Rattle.zone.specs.declared.record.building_element.Coefficients.{Coefficients}
use Rattle.zone.specs.declared.format.conditions.Conditions.{Conditions}
use Rattle.zone.specs.declared.record.zone_record.Zone.{Zone}
use Rattle.zone.specs.Physics.Ventilation.{calc_vent_heat_transfer_coeff}
use Rattle.zone.specs.Physics.System.{matrix_a, vector_b}

unfoldable pub calc_temperatures :
    Coefficients → Zone → (temp_prev : List Float) → Conditions → (delta_t gains_heat_cool f_hc_c ach : Float) → Result (List Float)
calc_temperatures c z temp_prev hour delta_t gains_heat_cool f_hc_c ach =
    let h_ve = calc_vent_heat_transfer_coeff z.volume ach in
    solve (matrix_a c z temp_prev hour delta_t h_ve) (vector_b c z temp_prev hour delta_t gains_heat_cool f_hc_c h_ve)
