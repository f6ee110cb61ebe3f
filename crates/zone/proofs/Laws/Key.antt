-- The key of a matrix that is kept: the timestep, the directions of heat flow and the open treatments.
use Rattle.std.proofs.Common.{◌≡◌, refl, sym, ap, subst, ◌∙◌, ⊎_elim, Bool, true, false, ◌&&◌, List, ℕ, suc, zero, ◌+◌, ◌-◌, ◌<◌, ◌≤◌, eq-or-lt_of_le, add-one, arith, eqb-true, eqb, length, get_or, take, drop}
use lib.Pointwise.{pointwise}
use Rattle.solver.specs.Repeat.{all_of, all}
use Rattle.solver.proofs.Promise.{drop_next, and_true, all_last}
use Rattle.zone.specs.declared.record.building_element.HeatFlowDirection.{HeatFlowDirection}
use Rattle.zone.specs.declared.record.building_element.HeatFlowDirection.TheVariants.{Horizontal, Upwards, Downwards}
use Rattle.zone.specs.Record.BuildingElement.{direction_code, is_direction}
use Rattle.zone.specs.Inner.Kept.{Key, same_elements}

all_none : (test : ℕ → Bool) → all_of 0 0 test ≡ true
unfolding all_of
all_none test = refl

-- the direction of a code
abbrev of_code : ℕ → HeatFlowDirection
of_code zero = Horizontal
of_code (suc zero) = Upwards
of_code (suc (suc k)) = Downwards

code_back : (d : HeatFlowDirection) → of_code (direction_code d) ≡ d
code_back Horizontal = refl
code_back Upwards = refl
code_back Downwards = refl

direction_same : (a b : HeatFlowDirection) → is_direction a b ≡ true → b ≡ a
direction_same a b e = sym (code_back b) ∙ ap of_code (eqb-true _ _ e) ∙ code_back a

-- a test of n pairs of numbers from i on, list by list
module _ {A : Type 0} (E : A → A → Bool) (d : A) (xs ys : List A) where
  pairs : (n i : ℕ) → i + n ≤ length xs → i + n ≤ length ys
      → pointwise E (take n (drop i xs)) (take n (drop i ys)) ≡ all_of n i (λ e. E (get_or xs e d) (get_or ys e d))
  unfolding all_of
  pairs zero i h k = refl
  pairs (suc n) i h k =
      rw (drop_next xs i d (omega arith), drop_next ys i d (omega arith), add-one i)
      (ap (λ (b : Bool). E (get_or xs i d) (get_or ys i d) && b) (pairs n (suc i) (omega arith) (omega arith)))

and_swap : (a b c d : Bool) → ((a && b) && (c && d)) ≡ ((a && c) && (b && d))
and_swap false b c d = refl
and_swap true true true d = refl
and_swap true true false d = refl
and_swap true false true d = refl
and_swap true false false d = refl

both_of : (p q : ℕ → Bool) (n i : ℕ) → all_of n i (λ e. p e && q e) ≡ (all_of n i p && all_of n i q)
unfolding all_of
both_of p q zero i = refl
both_of p q (suc n) i = ap (λ (b : Bool). (p i && q i) && b) (both_of p q n (suc i)) ∙ and_swap (p i) (q i) (all_of n (suc i) p) (all_of n (suc i) q)

-- a test of two directions that is told case by case
pub by_cases : (E : HeatFlowDirection → HeatFlowDirection → Bool) →
    E Horizontal Horizontal ≡ true → E Horizontal Upwards ≡ false → E Horizontal Downwards ≡ false →
    E Upwards Horizontal ≡ false → E Upwards Upwards ≡ true → E Upwards Downwards ≡ false →
    E Downwards Horizontal ≡ false → E Downwards Upwards ≡ false → E Downwards Downwards ≡ true →
    (x y : HeatFlowDirection) → E x y ≡ is_direction y x
by_cases E hh hu hd uh uu ud dh du dd Horizontal Horizontal = hh
by_cases E hh hu hd uh uu ud dh du dd Horizontal Upwards = hu
by_cases E hh hu hd uh uu ud dh du dd Horizontal Downwards = hd
by_cases E hh hu hd uh uu ud dh du dd Upwards Horizontal = uh
by_cases E hh hu hd uh uu ud dh du dd Upwards Upwards = uu
by_cases E hh hu hd uh uu ud dh du dd Upwards Downwards = ud
by_cases E hh hu hd uh uu ud dh du dd Downwards Horizontal = dh
by_cases E hh hu hd uh uu ud dh du dd Downwards Upwards = du
by_cases E hh hu hd uh uu ud dh du dd Downwards Downwards = dd

module _ (key : Key) (d : List HeatFlowDirection) (o : List ℕ) where
  abbrev pub alike : ℕ → Bool
  alike e = is_direction (get_or d e Horizontal) (get_or key.0 e Horizontal) && eqb (get_or key.1 e 0) (get_or o e 0)

  abbrev Same : ℕ → Type 0
  Same e = (get_or key.0 e Horizontal ≡ get_or d e Horizontal) × (get_or key.1 e 0 ≡ get_or o e 0)

  -- all are the same
  pub elements_same : (n : ℕ) → same_elements n key d o ≡ true → (e : ℕ) → e < n → Same e
  unfolding same_elements
  elements_same zero p e h = absurd (omega arith)
  elements_same (suc n) p e h =
      let le : e ≤ n = omega arith in
      let q = and_true (same_elements n key d o) (alike n) p in
      let last = and_true (is_direction (get_or d n Horizontal) (get_or key.0 n Horizontal)) (eqb (get_or key.1 n 0) (get_or o n 0)) q.1 in
      ⊎_elim (λ z. subst Same (sym z) (direction_same _ _ last.0, eqb-true _ _ last.1))
      (λ z. elements_same n q.0 e z) (eq-or-lt_of_le le)

  -- element by element
  pub elements_all : (n : ℕ) → same_elements n key d o ≡ all 0 n alike
  unfolding same_elements
  elements_all zero = sym (all_none alike)
  elements_all (suc n) = rw (elements_all n) (sym (all_last alike 0 n (omega arith)) ∙ ap (λ (m : ℕ). all 0 m alike) (add-one n))

  -- array by array
  lists_same : (n : ℕ) → n ≤ length key.0 → n ≤ length d → n ≤ length key.1 → n ≤ length o
      → same_elements n key d o ≡ (pointwise (λ x y. is_direction y x) (take n key.0) (take n d) && pointwise eqb (take n key.1) (take n o))
  lists_same n h0 h1 h2 h3 =
      let before : n - 0 ≡ n = omega arith in
      elements_all n
      ∙ ap (λ (m : ℕ). all_of m 0 alike) before
      ∙ both_of (λ e. is_direction (get_or d e Horizontal) (get_or key.0 e Horizontal)) (λ e. eqb (get_or key.1 e 0) (get_or o e 0)) n 0
      ∙ (λ i. sym (pairs (λ x y. is_direction y x) Horizontal key.0 d n 0 (omega (arith, h0)) (omega (arith, h1))) i && sym (pairs eqb 0 key.1 o n 0 (omega (arith, h2)) (omega (arith, h3))) i)

  -- as the code compares them
  pub same_told : (E : HeatFlowDirection → HeatFlowDirection → Bool) → ((x y : HeatFlowDirection) → E x y ≡ is_direction y x)
      → (m n : ℕ) → m ≡ n → m ≤ length key.0 → m ≤ length d → m ≤ length key.1 → m ≤ length o
      → (x y : Bool) → x ≡ pointwise E (take m key.0) (take m d) → y ≡ pointwise eqb (take m key.1) (take m o) → same_elements n key d o ≡ (x && y)
  same_told E E_is m n c h0 h1 h2 h3 x y x_is y_is =
      ap (λ (k : ℕ). same_elements k key d o) (sym c)
      ∙ lists_same m h0 h1 h2 h3
      ∙ (λ i. pointwise (λ x y. sym (E_is x y) i) (take m key.0) (take m d) && sym y_is i)
      ∙ ap (λ (b : Bool). b && y) (sym x_is)
