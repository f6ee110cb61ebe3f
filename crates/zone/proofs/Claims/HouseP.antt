-- House P's head, start-up and hours, and its rows, by computing.
use Rattle.std.proofs.Common.{◌≡◌, refl, true, length}
use Rattle.zone.specs.Format.Decode.{no_element, no_element_hour, floats_at, zone_at, elements_at}
use Rattle.zone.specs.Format.ElementLayout.{kind_of}
use Rattle.solver.specs.F64.{decimal}
use Rattle.solver.specs.Repeat.{repeat_of, repeat_down, all_of}
use Rattle.solver.specs.Closeness.{abs, is_finite, relative_eq, close_in_demand, valid_divisor, within_state_bound, isclose}
use Rattle.solver.specs.Sums.{sum2_add_all, sum_from, terms_of}
use Rattle.solver.specs.Rows.{row, set_row, larger_in_column, eliminate_row}
use Rattle.solver.specs.Lu.{interchange_rows, eliminate_column_by, eliminate_column, pivots_valid, apply_interchanges, forward_step, forward_substitution, back_step, back_substitution, lu_solve}
use Rattle.solver.specs.Chain.{eliminate_chain, eliminate_chains, chain_divisors_valid, divisors_valid, reduce_right_side, reduce_right_sides, back_substitute_chain, back_substitute_chains, element_within, nodes_within}
use Rattle.solver.specs.FastSolver.{set_inner_diagonals, gather_dense, scatter_dense, temperatures, diag_of, dense_of, all_divisors_valid, temperatures_of, temperatures_valid, solve}
use Rattle.zone.specs.Record.BuildingElement.{standard_coefficients, heat_flow_direction, h_ci, add_closed, h_pli_transparent, number_of_nodes, nodes_of, node_count}
use Rattle.zone.specs.Format.Bytes.{big_endian_from, bytes_of}
use Rattle.zone.specs.Check.Ranges.{area_range, pitch_range, coefficient_range, h_pli_range, k_pli_range, fraction_range, sky_range, delta_r_range, irradiance_range, gains_range, power_limit_range, rate_range, temperature_range, heating_setpoint_range, setpoint_range, hour_length_range, all_in}
use Rattle.zone.specs.Check.ZoneTest.{element_hour_in_range, element_in_range, front_in_range, values_test, counts_test, zone_test, all_required}
use Rattle.zone.specs.Format.Conditions.{element_hours_at, conditions_at, open_bits_valid, hour_and_gains_in_range, setpoints_in_range, conditions_test, conditions_of}
use Rattle.zone.specs.Physics.Ventilation.{air_properties, density_kg_per_m3, calc_vent_heat_transfer_coeff, or_minimum, raised_to, capped_at, ach_req_to_reach_temperature}
use Rattle.zone.specs.Format.Encode.{row_bytes}
use Rattle.zone.specs.Physics.Slots.{set_slots, in_slots, with_terms}
use Rattle.zone.specs.Physics.System.{zone_two_nodes, area_el_total, couplings, matrix_a, vector_b}
use Rattle.zone.specs.Physics.CalcTemperatures.{calc_temperatures}
use Rattle.zone.specs.Physics.HeatBalance.{terms_where, heat_balance}
use Rattle.zone.specs.Physics.Equations.{rows_of, right_sides_of}
use Rattle.zone.specs.Physics.NodeLayout.{first_node, copy_nodes, to_slots, to_nodes}
use Rattle.zone.specs.Calls.State.{state_test, zone_and_state_test, slots_of, state_of}
use Rattle.zone.specs.Hour.Demand.{control_temperature, frac_conv_gains_heat_cool, wanted, frac_upper, interp_heat_cool_demand, demand_record, calc_cooling_potential_from_ventilation, share_or_zero, demand_for_load, space_heat_cool_demand}
use Rattle.zone.specs.Calls.Hour.{tested_hour, tested, tested_hour_and_limits, tested_step, step, update_temperatures, demand, delivered, limited, delivered_by, delivered_fraction, convective_share, hour_step}
use lib.Ieee.{add, sub, mul, div, lt, le, eq, ne, of_bits, to_bits, neg}
use Rattle.zone.specs.Format.Head.{head_of, structure_of, elements_end}
use Rattle.zone.specs.Calls.StartUp.{start_up_conditions, all_close, close, pass, settle, init_node_temps}
use Rattle.zone.specs.Claims.HousePBalances.{balance_at_rest}
use Rattle.zone.specs.Claims.HouseP.{HousePClaims, house_p, head_of_p, hour_of_p, all_hold, table}

-- what the definitions compute by: to unfold one of these is to unfold what its line names
unfoldable records1 : Unit {0}
unfolding no_element no_element_hour floats_at kind_of standard_coefficients heat_flow_direction h_ci add_closed h_pli_transparent number_of_nodes nodes_of node_count big_endian_from bytes_of
records1 = tt

unfoldable records2 : Unit {0}
unfolding element_hours_at conditions_at open_bits_valid hour_and_gains_in_range setpoints_in_range conditions_test conditions_of row_bytes head_of structure_of elements_end zone_at elements_at
records2 = tt

unfoldable floats : Unit {0}
unfolding decimal add sub mul div lt le eq ne of_bits to_bits neg
floats = tt

unfoldable solver1 : Unit {0}
unfolding repeat_of repeat_down all_of abs is_finite relative_eq close_in_demand valid_divisor within_state_bound sum2_add_all terms_of row set_row larger_in_column eliminate_row interchange_rows eliminate_column_by
solver1 = tt

unfoldable solver2 : Unit {0}
unfolding eliminate_column pivots_valid apply_interchanges forward_step forward_substitution back_step back_substitution lu_solve eliminate_chain eliminate_chains chain_divisors_valid divisors_valid
solver2 = tt

unfoldable solver3 : Unit {0}
unfolding reduce_right_side reduce_right_sides back_substitute_chain back_substitute_chains element_within nodes_within set_inner_diagonals gather_dense scatter_dense temperatures
solver3 = tt

unfoldable solver4 : Unit {0}
unfolding diag_of dense_of all_divisors_valid temperatures_of temperatures_valid solve isclose
solver4 = tt

unfoldable checks1 : Unit {0}
unfolding area_range pitch_range coefficient_range h_pli_range k_pli_range fraction_range sky_range delta_r_range irradiance_range gains_range power_limit_range rate_range temperature_range heating_setpoint_range
checks1 = tt

unfoldable checks2 : Unit {0}
unfolding setpoint_range hour_length_range all_in element_hour_in_range element_in_range front_in_range values_test counts_test zone_test all_required
checks2 = tt

unfoldable physics1 : Unit {0}
unfolding air_properties density_kg_per_m3 calc_vent_heat_transfer_coeff or_minimum raised_to capped_at ach_req_to_reach_temperature set_slots in_slots with_terms rows_of right_sides_of
physics1 = tt

unfoldable physics2 : Unit {0}
unfolding zone_two_nodes area_el_total couplings matrix_a vector_b calc_temperatures first_node
physics2 = tt

unfoldable physics3 : Unit {0}
unfolding copy_nodes to_slots to_nodes terms_where sum_from heat_balance
physics3 = tt

unfoldable calls1 : Unit {0}
unfolding state_test zone_and_state_test slots_of state_of control_temperature frac_conv_gains_heat_cool wanted frac_upper interp_heat_cool_demand demand_record
calls1 = tt

unfoldable calls2 : Unit {0}
unfolding calc_cooling_potential_from_ventilation share_or_zero demand_for_load space_heat_cool_demand tested_hour tested step update_temperatures demand start_up_conditions all_close close
calls2 = tt

unfoldable calls3 : Unit {0}
unfolding pass settle init_node_temps delivered limited delivered_by delivered_fraction convective_share tested_hour_and_limits tested_step hour_step
calls3 = tt

-- all of them
unfoldable computed : Unit {0}
unfolding records1 records2 floats solver1 solver2 solver3 solver4 checks1 checks2 physics1 physics2 physics3 calls1 calls2 calls3
computed = tt

pub house_p_lem : HousePClaims
unfolding computed
house_p_lem =
    record {
      head = refl;
      start_up = refl;
      balance = balance_at_rest;
      balance_is = refl;
      hour_1 = λ l. refl;
      hour_2 = λ l. refl;
      old_refused = refl;
      old_hour = λ l. refl;
      old_twice = refl;
      hour_3 = refl;
    }

pub claim : all_hold table ≡ true
unfolding all_hold computed
claim = refl

-- what the book counts by
pub count_of_p : house_p.count ≡ 1
unfolding computed
count_of_p = refl

pub nodes_of_p : node_count house_p ≡ 3
unfolding computed
nodes_of_p = refl

pub head_of_p_length : length head_of_p ≡ 180
unfolding computed
head_of_p_length = refl

pub hour_of_p_length : length hour_of_p ≡ 154
unfolding computed
hour_of_p_length = refl
