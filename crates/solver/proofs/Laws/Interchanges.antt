-- Two rows, or two places of a right side, that change places: what stands where afterwards.
use Rattle.std.proofs.Common.{◌≡◌, refl, sym, ap, ◌∙◌, ⊎_elim, cond, List, ℕ, ◌+◌, ◌*◌, ◌<◌, arith, eqb, length, get_or, set, length-set, get_or-set_same, get_or-set_other, Float, eq-eqb, ne_eqb}
use lib.Ieee.{nan}
use Rattle.std.proofs.lemmas.Bool.{cases_eq}
use Rattle.solver.specs.Rows.{entry, row, set_row}
use Rattle.solver.specs.Lu.{interchange_rows, swap}
use Rattle.solver.proofs.Laws.Sums.{terms_at}
use Rattle.solver.proofs.Laws.Stores.{stores_length, stores_out, stores_in}

-- where the content of place i stood before k and q changed places
unfoldable pub swapped : ℕ → ℕ → ℕ → ℕ
swapped k q i = cond (eqb i k) q (cond (eqb i q) k i)

module _ (k q : ℕ) where
  pub swapped_first : swapped k q k ≡ q
  unfolding swapped
  swapped_first = rw (eq-eqb k k refl)

  swapped_second : swapped k q q ≡ k
  unfolding swapped
  swapped_second = ⊎_elim (λ (e : q ≡ k). rw (eq-eqb q k e) e) (λ (n : q ≡ k → ⊥). rw (ne_eqb q k n, eq-eqb q q refl)) (cases_eq q k)

  pub swapped_other : (i : ℕ) → (i ≡ k → ⊥) → (i ≡ q → ⊥) → swapped k q i ≡ i
  unfolding swapped
  swapped_other i n o = rw (ne_eqb i k n, ne_eqb i q o)

  -- what holds of k, of q and of i holds of where i stood
  pub swapped_by : (P : ℕ → Type 0) (i : ℕ) → P k → P q → P i → P (swapped k q i)
  swapped_by P i a b c =
      ⊎_elim
      (λ (e : i ≡ k). rw (e, swapped_first) b)
      (λ (n : i ≡ k → ⊥). ⊎_elim (λ (e : i ≡ q). rw (e, swapped_second) a) (λ (o : i ≡ q → ⊥). rw (swapped_other i n o) c) (cases_eq i q))
      (cases_eq i k)

-- on a right side
pub swap_at : (k q : ℕ) (l : List Float) (i : ℕ) → k < length l → q < length l → get_or (swap k q l) i nan ≡ get_or l (swapped k q i) nan
swap_at k q l i hk hq =
    let x = get_or l q nan in
    let y = get_or l k nan in
    let l' = set l k x in
    let fits : q < length l' = omega (arith, length-set l k x) in
    ⊎_elim
    (λ (e : i ≡ q). rw (e, swapped_second k q) (get_or-set_same l' q y nan fits))
    (λ (n : i ≡ q → ⊥).
    get_or-set_other l' q i y nan n
    ∙ ⊎_elim
    (λ (e : i ≡ k). rw (e, swapped_first k q) (get_or-set_same l k x nan hk))
    (λ (o : i ≡ k → ⊥). rw (swapped_other k q i o n) (get_or-set_other l k i x nan o))
    (cases_eq i k))
    (cases_eq i q)

pub swap_length : (k q : ℕ) (l : List Float) → length (swap k q l) ≡ length l
swap_length k q l = length-set (set l k (get_or l q nan)) q (get_or l k nan) ∙ length-set l k (get_or l q nan)

-- a row read, and written
pub row_at : (i : ℕ) (m : List Float) (j : ℕ) → j < 25 → get_or (row i m) j nan ≡ entry i j m
unfolding row
row_at i m j h = terms_at (λ x. entry i x m) 25 j nan h

module _ (i : ℕ) (r m : List Float) where
  set_row_length : length (set_row i r m) ≡ length m
  unfolding set_row
  set_row_length = stores_length nan (λ j. 25 * i + j) (λ j x. get_or r j nan) 0 25 m

  set_row_at : (j : ℕ) → j < 25 → 25 * i + j < length m → entry i j (set_row i r m) ≡ get_or r j nan
  unfolding set_row
  set_row_at j h fits = stores_in nan (λ j. 25 * i + j) (λ j x. get_or r j nan) 0 25 m j (λ x y n e. n (omega arith)) (omega arith) h fits

  set_row_other : (i' j : ℕ) → j < 25 → (i' ≡ i → ⊥) → entry i' j (set_row i r m) ≡ entry i' j m
  unfolding set_row
  set_row_other i' j h n =
      stores_out nan (λ j. 25 * i + j) (λ j x. get_or r j nan) 0 25 m (25 * i' + j) (omega arith) (λ x u v e. n (omega arith))

-- the exchange of two whole rows
module _ (k q : ℕ) (m : List Float) (hk : k < 25) (hq : q < 25) (hm : length m ≡ 625) where
  pub exchange_length : length (interchange_rows k q (row q m) m) ≡ 625
  unfolding interchange_rows
  exchange_length =
      ⊎_elim
      (λ (e : q ≡ k). rw (eq-eqb q k e) hm)
      (λ (n : q ≡ k → ⊥). rw (ne_eqb q k n) (set_row_length k (row q m) (set_row q (row k m) m) ∙ set_row_length q (row k m) m ∙ hm))
      (cases_eq q k)

  apart : (q ≡ k → ⊥) → (i j : ℕ) → i < 25 → j < 25 → entry i j (set_row k (row q m) (set_row q (row k m) m)) ≡ entry (swapped k q i) j m
  apart d i j hi hj =
      let m' = set_row q (row k m) m in
      let l : length m' ≡ 625 = set_row_length q (row k m) m ∙ hm in
      ⊎_elim
      (λ (e : i ≡ k). rw (e, swapped_first k q) (set_row_at k (row q m) m' j hj (omega (arith, l)) ∙ row_at q m j hj))
      (λ (n : i ≡ k → ⊥).
      set_row_other k (row q m) m' i j hj n
      ∙ ⊎_elim
      (λ (e : i ≡ q). rw (e, swapped_second k q) (set_row_at q (row k m) m j hj (omega arith) ∙ row_at k m j hj))
      (λ (o : i ≡ q → ⊥). rw (swapped_other k q i n o) (set_row_other q (row k m) m i j hj o))
      (cases_eq i q))
      (cases_eq i k)

  pub exchange_at : (i j : ℕ) → i < 25 → j < 25 → entry i j (interchange_rows k q (row q m) m) ≡ entry (swapped k q i) j m
  unfolding interchange_rows
  exchange_at i j hi hj =
      ⊎_elim
      (λ (e : q ≡ k). rw (eq-eqb q k e) (ap (λ (x : ℕ). entry x j m) (stay e)))
      (λ (d : q ≡ k → ⊥). rw (ne_eqb q k d) (apart d i j hi hj))
      (cases_eq q k)
    where
      stay : q ≡ k → i ≡ swapped k q i
      stay e =
          ⊎_elim (λ (f : i ≡ k). f ∙ sym e ∙ sym (swapped_first k q) ∙ ap (swapped k q) (sym f))
          (λ (n : i ≡ k → ⊥). sym (swapped_other k q i n (λ g. n (g ∙ e)))) (cases_eq i k)
