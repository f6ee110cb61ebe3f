-- The pivot search reads its own column alone, and finds one of its rows.
use Rattle.std.proofs.Common.{◌≡◌, refl, sym, ap, ◌∙◌, Bool, true, false, cond, List, ℕ, suc, ◌+◌, ◌-◌, ◌*◌, ◌≤◌, ◌<◌, arith, get_or, drop, get_or-drop, Float}
use lib.Ieee.{nan, lt}
use Rattle.solver.specs.Closeness.{abs}
use Rattle.solver.specs.Rows.{entry, larger_in_column, pivot_row}
use Rattle.solver.proofs.Laws.Turns.{repeat_relates}

either : (test : Bool) (a b n : ℕ) → a < n → b < n → cond test a b < n
either true a b n h g = h
either false a b n h g = g

module _ (k w : ℕ) (m m' : List Float) (h : k < w) (same : (i : ℕ) → i < w → entry i k m ≡ entry i k m') where
  -- the entries of the part of the matrix from row k on
  part : (i : ℕ) → i < w - k → entry i k (drop (25 * k) m) ≡ entry i k (drop (25 * k) m')
  part i g =
      let e : 25 * k + (25 * i + k) ≡ 25 * (k + i) + k = omega arith in
      get_or-drop (25 * k) m (25 * i + k) nan ∙ rw e (same (k + i) (omega arith)) ∙ ap (λ (x : ℕ). get_or m' x nan) (sym e) ∙ sym (get_or-drop (25 * k) m' (25 * i + k) nan)

  Same : ℕ → ℕ → ℕ → Type 0
  Same i u v = (u ≡ v) × (v < w - k)

  step : (i u v : ℕ) → 1 ≤ i → i < w - k → Same i u v → Same (suc i) (larger_in_column k (drop (25 * k) m) i u) (larger_in_column k (drop (25 * k) m') i v)
  unfolding Same larger_in_column
  step i u v lo hi (e, f) = (
    rw (e, part v f, part i hi),
    either (lt (abs (entry v k (drop (25 * k) m'))) (abs (entry i k (drop (25 * k) m')))) i v (w - k) hi f,
  )

  both : Same (w - k) (pivot_row k (w - k) (drop (25 * k) m)) (pivot_row k (w - k) (drop (25 * k) m'))
  unfolding Same
  both = repeat_relates Same (larger_in_column k (drop (25 * k) m)) (larger_in_column k (drop (25 * k) m')) 1 (w - k) 0 0 (omega arith) step (refl, omega arith)

  pub pivot_same : pivot_row k (w - k) (drop (25 * k) m) ≡ pivot_row k (w - k) (drop (25 * k) m')
  unfolding Same
  pivot_same = both.0

  pub pivot_less : pivot_row k (w - k) (drop (25 * k) m') < w - k
  unfolding Same
  pivot_less = both.1
