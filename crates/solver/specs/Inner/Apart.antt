-- `fast_solver` in the parts that one matrix at several rates, and one right side with several loads, repeat: the chains and the columns before the last are
-- factored once (`factor_apart`), the last column for each rate (`factor_last`), the right side is reduced once (`reduce_chains`, `inner_shares`), and a load
-- is gathered and substituted (`substitute_apart`). proofs/Laws/Together.antt proves that this is `fast_solver` of specs/FastSolver.antt, bit for bit.
use Rattle.std.specs.Prelude.{ℕ, List, Bool, cond, ◌&&◌, Float}
use Rattle.solver.specs.declared.system.Factors.{Factors}
use Rattle.solver.specs.declared.dense_part.RightSide.{RightSide}
use Rattle.solver.specs.Numbers.{temperature}
use Rattle.solver.specs.Lu.{lu_with, pivots_valid}
use Rattle.solver.specs.Inner.Columns.{factor_columns, lu_solve_apart}
use Rattle.solver.specs.Chain.{eliminate_chains, divisors_valid, back_substitute_chains, nodes_within}
use Rattle.solver.specs.FastSolver.{at_most24, set_inner_diagonals, scatter_dense}
use Rattle.solver.specs.Inner.Factored.{Solved, solved, with_diag}
use Rattle.solver.specs.Inner.Reduced.{reduce_chains, inner_shares}

-- What is factored once: whether its divisors are valid, the adjusted diagonals, the columns before the last and the interchanges.
pub data Columns : Type 0 where
  columns : (valid : Bool) (diag dense : List Float) (interchanges : List ℕ) → Columns

abbrev pub valid_in : Columns → Bool
valid_in (columns valid diag dense interchanges) = valid

abbrev pub diag_in : Columns → List Float
diag_in (columns valid diag dense interchanges) = diag

abbrev pub dense_in : Columns → List Float
dense_in (columns valid diag dense interchanges) = dense

abbrev pub interchanges_in : Columns → List ℕ
interchanges_in (columns valid diag dense interchanges) = interchanges

-- column n of the dense part is not read
unfoldable pub factor_apart : ℕ → List Bool → (diag next prev dense : List Float) → List ℕ → Columns
factor_apart n two_nodes diag next prev dense interchanges =
    let adjusted = eliminate_chains n two_nodes next prev diag in
    let lu = factor_columns n (set_inner_diagonals n adjusted dense) interchanges in
    columns (divisors_valid n two_nodes adjusted && pivots_valid n lu.matrix) adjusted lu.matrix lu.interchanges

-- the node temperatures, of the dense part's right side v and of a right side y whose chains are reduced
unfoldable pub temperatures_apart : ℕ → List Bool → (diag next dense last : List Float) → List ℕ → (v y : List Float) → List Float
temperatures_apart n two_nodes diag next dense last interchanges v y =
    back_substitute_chains n two_nodes diag next (scatter_dense n (lu_solve_apart n dense last interchanges v) y)

unfoldable pub substitute_apart : ℕ → List Bool → (diag next dense last : List Float) → List ℕ → (v y : List Float) → Solved
substitute_apart n two_nodes diag next dense last interchanges v y =
    let t = temperatures_apart n two_nodes diag next dense last interchanges v y in
    solved (cond (nodes_within n two_nodes t) 0 temperature) t

-- the same, of a matrix that is factored
abbrev pub substitute_factors : Factors → (last v y : List Float) → Solved
substitute_factors f last v y =
    substitute_apart (at_most24 f.chains.n) f.chains.two_nodes f.chains.diag f.chains.next f.lu.matrix last f.lu.interchanges v y

-- the matrix that is kept, with its columns before the last factored
abbrev pub with_columns : Factors → Columns → Factors
with_columns f c =
    record { chains = with_diag f.chains (diag_in c); lu = lu_with (dense_in c) (interchanges_in c); valid = valid_in c }

abbrev pub factored_columns : Factors → Factors
factored_columns f =
    with_columns f (factor_apart (at_most24 f.chains.n) f.chains.two_nodes f.chains.diag f.chains.next f.chains.prev f.lu.matrix f.lu.interchanges)

-- a right side, reduced by the chains of a matrix that is factored
abbrev pub reduced_base : Factors → RightSide → RightSide
reduced_base f base =
    let n = at_most24 f.chains.n in
    let b = reduce_chains n f.chains.two_nodes f.chains.diag f.chains.prev base.b in
    record { b = b; inner = inner_shares n f.chains.diag f.chains.prev b base.inner }
