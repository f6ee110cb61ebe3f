-- The elimination of a column from rows of a matrix: what stands where afterwards.
use Rattle.std.proofs.Common.{◌≡◌, refl, sym, ap, ◌∙◌, ⊎_elim, cond, List, ℕ, suc, ◌+◌, ◌*◌, ◌≤◌, ◌<◌, arith, eqb, ltb, length, get_or, set, length-set, get_or-set_same, get_or-set_other, Float, eq-eqb, ne_eqb, lt-ltb, le-ltb}
use lib.Ieee.{nan, neg}
use Rattle.std.proofs.lemmas.Bool.{cases_eq}
use Rattle.solver.specs.F64.{◌+ᶠ◌, ◌*ᶠ◌}
use Rattle.solver.specs.Repeat.{repeat}
use Rattle.solver.specs.Rows.{entry, set_entry, eliminate_row}
use Rattle.solver.proofs.Laws.Turns.{repeat_keeps}
use Rattle.solver.proofs.Laws.Stores.{less_or_not, stores_length, stores_out, stores_in}

-- entry j of a row of w columns from which column k was eliminated: of what stood there, x, and of what stood in column k, y
unfoldable pub eliminated : ℕ → ℕ → List Float → Float → ℕ → Float → Float → Float
eliminated w k pivots reciprocal j x y =
    cond (ltb j k) x (cond (eqb j k) (y *ᶠ reciprocal) (cond (ltb j w) (x +ᶠ neg (get_or pivots j nan) *ᶠ (y *ᶠ reciprocal)) x))

module _ (w k : ℕ) (pivots : List Float) (reciprocal : Float) where
  -- a column before k, or one that is not among the w; column k; a later column
  pub eliminated_before : (j : ℕ) (x y : Float) → j < k → eliminated w k pivots reciprocal j x y ≡ x
  unfolding eliminated
  eliminated_before j x y h = rw (lt-ltb j k h)

  pub eliminated_beyond : (j : ℕ) (x y : Float) → k < j → w ≤ j → eliminated w k pivots reciprocal j x y ≡ x
  unfolding eliminated
  eliminated_beyond j x y h g = rw (le-ltb j k (omega arith), ne_eqb j k (λ e. omega arith), le-ltb j w g)

  pub eliminated_factor : (x y : Float) → eliminated w k pivots reciprocal k x y ≡ y *ᶠ reciprocal
  unfolding eliminated
  eliminated_factor x y = rw (le-ltb k k (omega arith), eq-eqb k k refl)

  pub eliminated_later : (j : ℕ) (x y : Float) → k < j → j < w → eliminated w k pivots reciprocal j x y ≡ x +ᶠ neg (get_or pivots j nan) *ᶠ (y *ᶠ reciprocal)
  unfolding eliminated
  eliminated_later j x y h g = rw (le-ltb j k (omega arith), ne_eqb j k (λ e. omega arith), lt-ltb j w g)

  -- one row
  module _ (i : ℕ) (m : List Float) (hk : k < w) (hw : w ≤ 25) (hi : i < 25) (hm : length m ≡ 625) where
    row_length : length (eliminate_row w k pivots reciprocal i m) ≡ 625
    unfolding eliminate_row
    row_length =
        let f = entry i k m *ᶠ reciprocal in
        stores_length nan (λ j. 25 * i + j) (λ j x. x +ᶠ neg (get_or pivots j nan) *ᶠ f) (k + 1) w (set_entry i k f m)
        ∙ length-set m (25 * i + k) f ∙ hm

    row_other : (i' j : ℕ) → j < 25 → (i' ≡ i → ⊥) → entry i' j (eliminate_row w k pivots reciprocal i m) ≡ entry i' j m
    unfolding eliminate_row
    row_other i' j hj n =
        let f = entry i k m *ᶠ reciprocal in
        stores_out nan (λ j. 25 * i + j) (λ j x. x +ᶠ neg (get_or pivots j nan) *ᶠ f) (k + 1) w (set_entry i k f m) (25 * i' + j) (omega arith) (λ x u v e. n (omega arith))
        ∙ get_or-set_other m (25 * i + k) (25 * i' + j) f nan (λ e. n (omega arith))

    pub row_at : (j : ℕ) → j < 25 → entry i j (eliminate_row w k pivots reciprocal i m) ≡ eliminated w k pivots reciprocal j (entry i j m) (entry i k m)
    unfolding eliminate_row
    row_at j hj =
        ⊎_elim
        (λ (h : j < k). stays (λ u v. omega arith) (λ e. omega arith) ∙ sym (eliminated_before j x y h))
        (λ (h : k ≤ j).
        ⊎_elim
        (λ (e : j ≡ k). rw e
        (stores_out nan at g (k + 1) w m' (25 * i + k) (omega arith) (λ z u v d. omega arith)
        ∙ get_or-set_same m (25 * i + k) f nan (omega arith)
        ∙ sym (eliminated_factor (entry i k m) y)))
        (λ (n : j ≡ k → ⊥).
        ⊎_elim
        (λ (v : j < w).
        stores_in nan at g (k + 1) w m' j (λ a b o e. o (omega arith)) (omega arith) v (omega (arith, length-set m (25 * i + k) f))
        ∙ ap (λ (z : Float). z +ᶠ neg (get_or pivots j nan) *ᶠ f) (get_or-set_other m (25 * i + k) (25 * i + j) f nan (λ e. n (omega arith)))
        ∙ sym (eliminated_later j x y (omega arith) v))
        (λ (v : w ≤ j). stays (λ u z. omega arith) n ∙ sym (eliminated_beyond j x y (omega arith) v))
        (less_or_not j w))
        (cases_eq j k))
        (less_or_not j k)
      where
        f : Float
        f = entry i k m *ᶠ reciprocal

        x : Float
        x = entry i j m

        y : Float
        y = entry i k m

        m' : List Float
        m' = set_entry i k f m

        at : ℕ → ℕ
        at z = 25 * i + z

        g : ℕ → Float → Float
        g z v = v +ᶠ neg (get_or pivots z nan) *ᶠ f

        stays : (k < j → j < w → ⊥) → (j ≡ k → ⊥) → entry i j (repeat (k + 1) w (λ z t. set t (25 * i + z) (g z (get_or t (25 * i + z) nan))) m') ≡ x
        stays o n =
            stores_out nan at g (k + 1) w m' (25 * i + j) (omega arith) (λ z u v e. o (omega arith) (omega arith))
            ∙ get_or-set_other m (25 * i + k) (25 * i + j) f nan (λ e. n (omega arith))

  -- every row from row k + 1 up to row h
  module _ (h : ℕ) (m : List Float) (hk : k < w) (hw : w ≤ 25) (hh : h ≤ 25) (below : k < h) (hm : length m ≡ 625) where
    abbrev after : List Float
    after = repeat (k + 1) h (eliminate_row w k pivots reciprocal) m

    pub rows_length : length after ≡ 625
    rows_length =
        repeat_keeps (λ (i : ℕ) (t : List Float). length t ≡ 625) (eliminate_row w k pivots reciprocal) (k + 1) h m (omega arith)
        (λ i t u v q. row_length i t hk hw (omega arith) q) hm

    -- a row that no turn eliminates from
    pub rows_out : (i j : ℕ) → j < 25 → (k < i → i < h → ⊥) → entry i j after ≡ entry i j m
    rows_out i j hj o =
        (repeat_keeps (λ (x : ℕ) (t : List Float). (length t ≡ 625) × (entry i j t ≡ entry i j m)) (eliminate_row w k pivots reciprocal) (k + 1) h m (omega arith)
        (λ x t u v q. (row_length x t hk hw (omega arith) q.0, row_other x t hk hw (omega arith) q.0 i j hj (λ e. o (omega arith) (omega arith)) ∙ q.1))
        (hm, refl)).1

    -- a row below row k
    pub rows_in : (i j : ℕ) → j < 25 → k < i → i < h → entry i j after ≡ eliminated w k pivots reciprocal j (entry i j m) (entry i k m)
    rows_in i j hj lo hi =
        (repeat_keeps P (eliminate_row w k pivots reciprocal) (k + 1) h m (omega arith) step (hm, (λ (z : i < k + 1). absurd (omega arith), λ z. (refl, refl)))).1.0 hi
      where
        P : ℕ → List Float → Type 0
        P x t =
            (length t ≡ 625)
            × ((i < x → entry i j t ≡ eliminated w k pivots reciprocal j (entry i j m) (entry i k m))
            × (x ≤ i → (entry i j t ≡ entry i j m) × (entry i k t ≡ entry i k m)))

        step : (x : ℕ) (t : List Float) → k + 1 ≤ x → x < h → P x t → P (suc x) (eliminate_row w k pivots reciprocal x t)
        step x t u v q =
            let l = q.0 in (
              row_length x t hk hw (omega arith) l,
              (
                λ (z : i < suc x). ⊎_elim
                    (λ (y : i < x). row_other x t hk hw (omega arith) l i j hj (λ e. omega arith) ∙ q.1.0 y)
                    (λ (y : x ≤ i).
                    let e : x ≡ i = omega arith in
                    let s = q.1.1 y in
                    rw e (row_at i t hk hw (omega arith) l j hj ∙ rw (s.0, s.1)))
                    (less_or_not i x),
                λ (z : suc x ≤ i).
                    let s = q.1.1 (omega arith) in (
                      row_other x t hk hw (omega arith) l i j hj (λ e. omega arith) ∙ s.0,
                      row_other x t hk hw (omega arith) l i k (omega arith) (λ e. omega arith) ∙ s.1,
                    ),
              ),
            )
