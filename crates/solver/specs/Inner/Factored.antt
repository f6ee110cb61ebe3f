-- `solve` in two parts, of a matrix alone and of a right side, with a number beside the temperatures as `fast_solver` gives it: fast_solver_is
-- (proofs/Laws/Solver.antt) ties `fast_solver` to `solve`, which alone the zone's promise cites.
use Rattle.std.specs.Prelude.{ℕ, zero, suc, ◌+◌, List, Bool, cond, ◌&&◌, replicate, Float}
use Rattle.solver.specs.declared.system.Matrix.{Matrix}
use Rattle.solver.specs.declared.chain.Chains.{Chains}
use Rattle.solver.specs.Numbers.{divisor, temperature}
use Rattle.solver.specs.Result.{Result, ok, refused}
use Rattle.solver.specs.Lu.{lu_factor, pivots_valid}
use Rattle.solver.specs.Chain.{eliminate_chains, divisors_valid, nodes_within}
use Rattle.solver.specs.FastSolver.{at_most24, set_inner_diagonals, temperatures}

-- A matrix factored: 0, or 12 where a chain divisor or a pivot is zero or not finite; the adjusted diagonals, the factored dense part and its exchanges.
pub data Factored : Type 0 where
  factored : (number : ℕ) (diag dense : List Float) (interchanges : List ℕ) → Factored

-- the dense part, of the n inner surfaces and the air, where the chains are eliminated already
unfoldable pub factor_dense : ℕ → List Bool → List Float → List Float → List ℕ → Factored
factor_dense n two_nodes diag dense interchanges =
    let lu = lu_factor (n + 1) (set_inner_diagonals n diag dense) interchanges in
    factored (cond (divisors_valid n two_nodes diag && pivots_valid (n + 1) lu.matrix) 0 divisor) diag lu.matrix lu.interchanges

-- of a matrix. The list of exchanges is lent: its first n + 1 places are written, the others stay as they were
unfoldable pub factor : Matrix → List ℕ → Factored
factor a interchanges =
    let n = at_most24 a.n in
    factor_dense n a.two_nodes (eliminate_chains n a.two_nodes a.next a.prev a.diag) a.dense interchanges

-- a right side solved for: 0 or a refusal's number, and the temperatures in their slots
pub record Solved : Type 0 where
  pub number : ℕ
  pub temps : List Float

abbrev pub solved : (number : ℕ) (temps : List Float) → Solved
solved number temps = record { number = number; temps = temps }

-- of a matrix whose diag and dense are factored, with its exchanges; 13 where a node is not finite or beyond ±1e6
unfoldable pub substitute : Matrix → List ℕ → List Float → Solved
substitute a interchanges b =
    let n = at_most24 a.n in
    let t = temperatures n a.two_nodes a.diag a.next a.prev a.dense interchanges b in
    solved (cond (nodes_within n a.two_nodes t) 0 temperature) t

-- a matrix with what `factor` gives in place of its diagonals and its dense part
abbrev pub with_factors : Matrix → (diag dense : List Float) → Matrix
with_factors a diag dense =
    record { n = a.n; two_nodes = a.two_nodes; diag = diag; next = a.next; prev = a.prev; dense = dense }

-- chains with other own coefficients
abbrev pub with_diag : Chains → (diag : List Float) → Chains
with_diag c diag = record { n = c.n; two_nodes = c.two_nodes; diag = diag; next = c.next; prev = c.prev }

-- goes on with a matrix that is factored; a refusal leaves the right side as it was
abbrev pub substitute_factored : Matrix → List Float → Factored → Solved
substitute_factored a b (factored zero diag dense interchanges) = substitute (with_factors a diag dense) interchanges b
substitute_factored a b (factored (suc k) diag dense interchanges) = solved (suc k) b

-- both: 0 with the temperatures, 12 with the right side as it was, or 13 with the temperatures that were found
unfoldable pub fast_solver : Matrix → List Float → Solved
fast_solver a b = substitute_factored a b (factor a (replicate 25 0))

-- the same as an answer or a refusal
abbrev pub solved_or_refused : (number : ℕ) → List Float → Result (List Float)
solved_or_refused zero temps = ok temps
solved_or_refused (suc k) temps = refused (suc k) 0

abbrev pub solved_res : Solved → Result (List Float)
solved_res x = solved_or_refused x.number x.temps
