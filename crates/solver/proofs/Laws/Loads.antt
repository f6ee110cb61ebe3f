-- `solve` for those who factor the columns of a matrix once and a last column for each rate: where it is refused for a divisor. As in Laws/Together.antt,
-- the law takes the equations that the contracts of `factor_columns` and `factor_last` give. What a load gives is `apart_loaded` there.
use Rattle.std.proofs.Common.{◌≡◌, refl, sym, ap, ◌∙◌, Bool, false, ◌&&◌, List, ℕ, zero, suc, arith, length, get_or, replicate, Float}
use lib.Ieee.{nan}
use Rattle.solver.specs.declared.system.Matrix.{Matrix}
use Rattle.solver.specs.Closeness.{valid_divisor}
use Rattle.solver.specs.Result.{refused}
use Rattle.solver.specs.Inner.Columns.{factor_last}
use Rattle.solver.specs.FastSolver.{at_most24, solve}
use Rattle.solver.specs.Inner.Factored.{solved, solved_res, fast_solver}
use Rattle.solver.specs.Inner.Apart.{columns, factor_apart}
use Rattle.solver.proofs.Laws.Solver.{fast_solver_is}
use Rattle.solver.proofs.Laws.ColumnStep.{Apart}
use Rattle.solver.proofs.Laws.Together.{apart_divisor}
use Rattle.solver.specs.Numbers as SolveNumber

refuses : (number : ℕ) (temps : List Float) → (number ≡ 0 → ⊥) → solved_res (solved number temps) ≡ refused number 0
refuses zero temps k = absurd (k refl)
refuses (suc number) temps k = refl

solve_refused : (a : Matrix) (b temps : List Float) (number : ℕ) → fast_solver a b ≡ solved number temps → (number ≡ 0 → ⊥) → solve a b ≡ refused number 0
solve_refused a b temps number h k = sym (fast_solver_is a b) ∙ ap solved_res h ∙ refuses number temps k

module _ (a : Matrix) (m c : List Float) (valid : Bool) (diag dense : List Float) (interchanges : List ℕ) (last : List Float)
    (p : Apart (at_most24 a.n) a.dense m c) (hc : length c ≡ 25)
    (f : columns valid diag dense interchanges ≡ factor_apart (at_most24 a.n) a.two_nodes a.diag a.next a.prev m (replicate 25 0))
    (l : last ≡ factor_last (at_most24 a.n) dense interchanges c) where
  pub load_divisor : (b : List Float) → (valid && valid_divisor (get_or last (at_most24 a.n) nan)) ≡ false → solve a b ≡ refused SolveNumber.divisor 0
  load_divisor b t = solve_refused a b b 12 (apart_divisor a m c valid diag dense interchanges last p hc f l b t) (λ q. omega arith)
