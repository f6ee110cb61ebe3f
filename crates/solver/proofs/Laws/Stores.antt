-- Loops that store one place a turn, each place once: what stands where afterwards.
use Rattle.std.proofs.Common.{◌≡◌, refl, ap, ◌∙◌, ⊎_elim, List, ℕ, suc, ◌≤◌, ◌<◌, arith, length, get_or, set, length-set, get_or-set_same, get_or-set_other}
pub use Rattle.std.proofs.lemmas.Bool.{cases_lt as less_or_not}
use Rattle.solver.specs.Repeat.{repeat}
use Rattle.solver.proofs.Laws.Counting.{repeat_done}
use Rattle.solver.proofs.Laws.Turns.{repeat_keeps}

module _ {A : Type 0} (d : A) where
  -- the store of turn i: at place `at i`, from what stands there
  abbrev pub store : (ℕ → ℕ) → (ℕ → A → A) → ℕ → List A → List A
  store at g i l = set l (at i) (g i (get_or l (at i) d))

  -- the length stays
  pub stores_length : (at : ℕ → ℕ) (g : ℕ → A → A) (a b : ℕ) (l : List A) → length (repeat a b (store at g) l) ≡ length l
  stores_length at g a b l =
      ⊎_elim
      (λ (h : a < b). repeat_keeps (λ (i : ℕ) (t : List A). length t ≡ length l) (store at g) a b l (omega arith) (λ i t u v q. length-set t (at i) (g i (get_or t (at i) d)) ∙ q) refl)
      (λ (h : b ≤ a). ap length (repeat_done (store at g) a b l h))
      (less_or_not a b)

  -- a place that no turn stores to
  pub stores_out : (at : ℕ → ℕ) (g : ℕ → A → A) (a b : ℕ) (l : List A) (p : ℕ) → a ≤ b → ((i : ℕ) → a ≤ i → i < b → p ≡ at i → ⊥) →
      get_or (repeat a b (store at g) l) p d ≡ get_or l p d
  stores_out at g a b l p h apart =
      repeat_keeps (λ (i : ℕ) (t : List A). get_or t p d ≡ get_or l p d) (store at g) a b l h
      (λ i t u v q. get_or-set_other t (at i) p (g i (get_or t (at i) d)) d (apart i u v) ∙ q) refl

  -- a place that turn i stores to
  pub stores_in : (at : ℕ → ℕ) (g : ℕ → A → A) (a b : ℕ) (l : List A) (i : ℕ) → ((x y : ℕ) → (x ≡ y → ⊥) → at x ≡ at y → ⊥) →
      a ≤ i → i < b → at i < length l → get_or (repeat a b (store at g) l) (at i) d ≡ g i (get_or l (at i) d)
  stores_in at g a b l i inj h k fits = (repeat_keeps P (store at g) a b l (omega arith) step (refl, (λ (z : i < a). absurd (omega arith), λ z. refl))).1.0 k
    where
      P : ℕ → List A → Type 0
      P j t = (length t ≡ length l) × ((i < j → get_or t (at i) d ≡ g i (get_or l (at i) d)) × (j ≤ i → get_or t (at i) d ≡ get_or l (at i) d))

      step : (j : ℕ) (t : List A) → a ≤ j → j < b → P j t → P (suc j) (store at g j t)
      step j t u v q =
          let x = g j (get_or t (at j) d) in
          let other : (i ≡ j → ⊥) → get_or (set t (at j) x) (at i) d ≡ get_or t (at i) d = λ n. get_or-set_other t (at j) (at i) x d (inj i j n) in (
            length-set t (at j) x ∙ q.0,
            (
              λ (z : i < suc j). ⊎_elim
                  (λ (w : i < j). other (λ e. omega arith) ∙ q.1.0 w)
                  (λ (w : j ≤ i).
                  let e : j ≡ i = omega arith in
                  let f : at i < length t = omega (arith, q.0) in
                  rw e (get_or-set_same t (at i) (g i (get_or t (at i) d)) d f ∙ ap (g i) (q.1.1 w)))
                  (less_or_not i j),
              λ (z : suc j ≤ i). other (λ e. omega arith) ∙ q.1.1 (omega arith),
            ),
          )
