-- `fast_solver`: each element's chain is eliminated, the inner surfaces and the air are solved for, and the chains back-substituted.
-- Specification, Elimination of the chains; Dense solve; Back substitution; Refusals of a solve; A zone as a record.
use Rattle.std.specs.Prelude.{ℕ, ◌+◌, ◌*◌, List, Bool, cond, ◌&&◌, get_or, set, replicate, ltb, Float}
use Rattle.std.specs.Float.{nan}
use Rattle.solver.specs.declared.system.Matrix.{Matrix}
use Rattle.solver.specs.F64.{zero64}
use Rattle.solver.specs.Repeat.{repeat}
use Rattle.solver.specs.Numbers.{divisor, temperature}
use Rattle.solver.specs.Result.{Result, ok, bind, require}
use Rattle.solver.specs.Rows.{set_entry}
use Rattle.solver.specs.declared.lu.Lu.{Lu}
use Rattle.solver.specs.Lu.{lu_factor, pivots_valid, lu_solve}
use Rattle.solver.specs.Chain.{eliminate_chains, divisors_valid, reduce_right_sides, back_substitute_chains, nodes_within}

-- elements past the 24th are left out
abbrev pub at_most24 : ℕ → ℕ
at_most24 n = cond (ltb 24 n) 24 n

-- each element's adjusted inner diagonal goes into the dense part
unfoldable pub set_inner_diagonals : ℕ → List Float → List Float → List Float
set_inner_diagonals n diag dense = repeat 0 n (λ e. set_entry e e (get_or diag (5 * e + 4) nan)) dense

-- the dense part's right side: the inner surfaces' and the air's
unfoldable pub gather_dense : ℕ → List Float → List Float
gather_dense n b = set (repeat 0 n (λ e v. set v e (get_or b (5 * e + 4) nan)) (replicate 25 zero64)) n (get_or b 120 nan)

-- the dense part's unknowns, back in their slots
abbrev pub scatter_inner : List Float → ℕ → List Float → List Float
scatter_inner v e t = set t (5 * e + 4) (get_or v e nan)

unfoldable pub scatter_dense : ℕ → List Float → List Float → List Float
scatter_dense n v t = set (repeat 0 n (scatter_inner v) t) 120 (get_or v n nan)

-- the node temperatures of a right side b, by the adjusted diagonals of the chains and the factored dense part
unfoldable pub temperatures : ℕ → List Bool → List Float → List Float → List Float → List Float → List ℕ → List Float → List Float
temperatures n two_nodes diag next prev dense interchanges b =
    let y = reduce_right_sides n two_nodes diag prev b in
    back_substitute_chains n two_nodes diag next (scatter_dense n (lu_solve (n + 1) dense interchanges (gather_dense n y)) y)

module _ (a : Matrix) where
  -- the adjusted diagonals of the chains
  unfoldable pub diag_of : List Float
  diag_of = eliminate_chains (at_most24 a.n) a.two_nodes a.next a.prev a.diag

  -- the dense part, of the inner surfaces and the air, factored
  unfoldable pub dense_of : Lu
  dense_of = lu_factor (at_most24 a.n + 1) (set_inner_diagonals (at_most24 a.n) diag_of a.dense) (replicate 25 0)

  -- no divisor of a chain and no dense pivot is zero or not finite
  unfoldable pub all_divisors_valid : Bool
  all_divisors_valid = divisors_valid (at_most24 a.n) a.two_nodes diag_of && pivots_valid (at_most24 a.n + 1) dense_of.matrix

  -- the node temperatures of a right side
  unfoldable pub temperatures_of : List Float → List Float
  temperatures_of b = temperatures (at_most24 a.n) a.two_nodes diag_of a.next a.prev dense_of.matrix dense_of.interchanges b

  -- every node is finite and within ±1e6
  unfoldable pub temperatures_valid : List Float → Bool
  temperatures_valid t = nodes_within (at_most24 a.n) a.two_nodes t

  -- 12 for a divisor; else 13 for a temperature; else the temperatures in their slots
  unfoldable pub solve : List Float → Result (List Float)
  solve b =
      bind (require all_divisors_valid divisor) λ _.
      bind (require (temperatures_valid (temperatures_of b)) temperature) λ _.
      ok (temperatures_of b)
