-- Worked examples, by computation.
use Rattle.std.proofs.Common.{◌≡◌, refl, true, false, List, [], ◌∷◌, ◌^◌, Float}
use lib.Ieee.{binary64, add, sub, mul, div, neg, lt, le, eq, of_bits, to_bits}
use Rattle.solver.specs.F64.{◌+ᶠ◌, decimal, zero64}
use Rattle.solver.specs.Closeness.{abs, is_finite, relative_eq, close_in_demand, close_in_windows_test, valid_divisor, within_state_bound}
use Rattle.solver.specs.Repeat.{repeat_of, repeat_down, all_of}
use Rattle.solver.specs.Sums.{terms_of, sum2_add_all, sum2, sum_from, sum_from0}
use Rattle.solver.specs.Rows.{row, set_row, larger_in_column, eliminate_row}
use Rattle.solver.specs.Lu.{interchange_rows, eliminate_column_by, eliminate_column, pivots_valid, apply_interchanges, forward_step, forward_substitution, back_step, back_substitution, lu_solve}
use Rattle.solver.specs.Chain.{eliminate_chain, eliminate_chains, chain_divisors_valid, divisors_valid, reduce_right_side, reduce_right_sides, back_substitute_chain, back_substitute_chains, element_within, nodes_within}
use Rattle.solver.specs.FastSolver.{set_inner_diagonals, gather_dense, scatter_dense, temperatures, diag_of, dense_of, all_divisors_valid, temperatures_of, temperatures_valid, solve}
use Rattle.solver.specs.Claims.Worked.{three_nodes, right_side, of_three, three, tie, zero_divisor, zero_pivot, beyond, million, set_all, two, Worked}

-- what the definitions compute by: to unfold one of these is to unfold what its line names
unfoldable floats : Unit {0}
unfolding add sub mul div neg lt le eq of_bits to_bits decimal abs is_finite valid_divisor within_state_bound
floats = tt

unfoldable loops : Unit {0}
unfolding repeat_of repeat_down all_of terms_of row set_row set_all
loops = tt

unfoldable chains : Unit {0}
unfolding eliminate_chain eliminate_chains chain_divisors_valid divisors_valid reduce_right_side reduce_right_sides back_substitute_chain back_substitute_chains
chains = tt

unfoldable dense_part : Unit {0}
unfolding larger_in_column eliminate_row interchange_rows eliminate_column_by eliminate_column pivots_valid apply_interchanges forward_step forward_substitution
dense_part = tt

unfoldable substitution : Unit {0}
unfolding back_step back_substitution lu_solve set_inner_diagonals gather_dense scatter_dense element_within nodes_within
substitution = tt

unfoldable whole : Unit {0}
unfolding temperatures diag_of dense_of all_divisors_valid temperatures_of temperatures_valid solve
whole = tt

unfoldable matrices : Unit {0}
unfolding three tie zero_divisor zero_pivot beyond million two of_three three_nodes right_side
matrices = tt

pub worked : Worked
unfolding floats loops chains dense_part substitution whole matrices
worked = refl

-- 0.1 + 0.2 is close to 0.3 in the demand; 1e-8 is close to 0 in the windows test, and not in the demand
sum_close : close_in_demand (decimal 1 1 +ᶠ decimal 2 1) (decimal 3 1) ≡ true
unfolding add sub mul neg lt le eq of_bits decimal abs is_finite relative_eq close_in_demand
sum_close = refl

windows_close : close_in_windows_test (decimal 1 8) zero64 ≡ true
unfolding add sub mul neg lt le eq of_bits decimal abs is_finite relative_eq close_in_windows_test
windows_close = refl

demand_apart : close_in_demand (decimal 1 8) zero64 ≡ false
unfolding add sub mul neg lt le eq of_bits decimal abs is_finite relative_eq close_in_demand
demand_apart = refl

-- 1 + 1e30 + 1 - 1e30: the compensated sum is 2, the sum from left to right 0
cancelling : List Float
cancelling = decimal 1 0 ∷ decimal (10 ^ 30) 0 ∷ decimal 1 0 ∷ neg (decimal (10 ^ 30) 0) ∷ []

compensated : to_bits binary64 (sum2 cancelling) ≡ 0x4000000000000000
unfolding add sub neg of_bits to_bits decimal sum2_add_all cancelling
compensated = refl

plain : to_bits binary64 (sum_from0 cancelling) ≡ 0
unfolding add sub neg of_bits to_bits decimal sum_from cancelling
plain = refl
