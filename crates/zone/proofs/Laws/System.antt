-- What the code assembles in arrays of zeros, once for a time step, is System's matrix at each rate and right side at each load.
use Rattle.std.proofs.Common.{◌≡◌, refl, sym, ap, ◌∙◌, Bool, true, false, cond, List, [], ◌∷◌, ℕ, zero, suc, ◌+◌, ◌-◌, ◌*◌, ◌<◌, arith, get_or, set, replicate, get_or-set_other, Float}
use lib.Seq.{set_comm}
use lib.Ieee.{nan}
use Rattle.solver.specs.F64.{◌+ᶠ◌, zero64}
use Rattle.solver.specs.Repeat.{repeat_of}
use Rattle.solver.specs.FastSolver.{at_most24}
use Rattle.zone.specs.declared.record.building_element.Element.{Element}
use Rattle.zone.specs.declared.record.building_element.ElementHour.{ElementHour}
use Rattle.zone.specs.declared.record.building_element.Coefficients.{Coefficients}
use Rattle.zone.specs.declared.format.conditions.Conditions.{Conditions}
use Rattle.zone.specs.declared.record.zone_record.Zone.{Zone}
use Rattle.zone.specs.Record.BuildingElement.{is_two_nodes}
use Rattle.zone.specs.Physics.Slots.{element_slots, set_slot, set_slots, in_slots, element, element_hour}
use Rattle.zone.specs.Physics.Equations.{Rows, k_pli, outer_right_side, capacity_term, right_sides_five, right_sides_two, right_sides_of}
use Rattle.zone.specs.Physics.System.{zone_two_nodes, rows_at, couplings, matrix_a, gains_per_area, right_sides_at, zone_right_side, vector_b}
use Rattle.zone.specs.Inner.Assembly.{Chains, chains, set_rows, element_rows, element_right_sides, couple_row, add_gains, with_gains}
use Rattle.zone.specs.Inner.Assembled.{convective_sum, element_chains, couplings_of, element_sides, zone_terms_of, assembled, assembled_with, assemble, dense_with, right_side_with, assemble_step, matrix_of, right_side_of}
use Rattle.zone.proofs.Laws.Terms.{repeat_same}
use Rattle.zone.proofs.Laws.Nodes.{at_most_twice}

-- three lists that a loop writes together
chains_apart : (rows : ℕ → Rows) (k i : ℕ) (diag next prev : List Float)
    → repeat_of k i (λ e s. set_rows e (rows e) s) (chains diag next prev)
    ≡ chains (repeat_of k i (λ e. set_slots e (rows e).diag) diag) (repeat_of k i (λ e. set_slots e (rows e).next) next) (repeat_of k i (λ e. set_slots e (rows e).prev) prev)
unfolding repeat_of set_rows
chains_apart rows zero i diag next prev = refl
chains_apart rows (suc k) i diag next prev =
    chains_apart rows k (suc i) (set_slots i (rows i).diag diag) (set_slots i (rows i).next next) (set_slots i (rows i).prev prev)

-- two loops in one, where a turn of the second leaves alone what later turns of the first write
module _ {A : Type 0} (f g : ℕ → A → A) (apart : (i j : ℕ) → i < j → (s : A) → g i (f j s) ≡ f j (g i s)) where
  past : (k i j : ℕ) (s : A) → i < j → g i (repeat_of k j f s) ≡ repeat_of k j f (g i s)
  unfolding repeat_of
  past zero i j s h = refl
  past (suc k) i j s h = past k i (suc j) (f j s) (omega arith) ∙ ap (repeat_of k (suc j) f) (apart i j h s)

  both : (k i : ℕ) (s : A) → repeat_of k i g (repeat_of k i f s) ≡ repeat_of k i (λ e s. g e (f e s)) s
  unfolding repeat_of
  both zero i s = refl
  both (suc k) i s =
      ap (repeat_of k (suc i) g) (past k i (suc i) (f i s) (omega arith)) ∙ both k (suc i) (g i (f i s))

-- a place to which the gains are added, and another one that is set
gains_apart : (x y : Float) (p q : ℕ) (l : List Float) → (p ≡ q → ⊥)
    → set (set l q y) p (get_or (set l q y) p nan +ᶠ x) ≡ set (set l p (get_or l p nan +ᶠ x)) q y
gains_apart x y p q l h =
    rw (get_or-set_other l q p y nan h) (set_comm l q p y (get_or l p nan +ᶠ x) (λ e. h (sym e)))

-- and the same place
gains_same : (x y : Float) (p : ℕ) (l : List Float) → set (set l p y) p (get_or (set l p y) p nan +ᶠ x) ≡ set l p (y +ᶠ x)
gains_same x y p [] = refl
gains_same x y zero (a ∷ l) = refl
gains_same x y (suc p) (a ∷ l) = ap (λ (l : List Float). a ∷ l) (gains_same x y p l)

module _ (x : Float) where
  -- element i's inner surface gains; element j's slots are set
  slots_apart : (i j : ℕ) → i < j → (r l : List Float) → add_gains x i (set_slots j r l) ≡ set_slots j r (add_gains x i l)
  unfolding set_slots repeat_of
  slots_apart i j h r l =
      let p = 5 * i + 4 in
      let far : (m : ℕ) → p ≡ 5 * j + m → ⊥ = λ m e. omega arith in
      let s : ℕ → List Float → List Float = λ m l. set_slot j r m l in
      gains_apart x (get_or r 4 nan) p (5 * j + 4) (s 3 (s 2 (s 1 (s 0 l)))) (far 4)
      ∙ ap (s 4) (gains_apart x (get_or r 3 nan) p (5 * j + 3) (s 2 (s 1 (s 0 l))) (far 3))
      ∙ ap (λ l. s 4 (s 3 l)) (gains_apart x (get_or r 2 nan) p (5 * j + 2) (s 1 (s 0 l)) (far 2))
      ∙ ap (λ l. s 4 (s 3 (s 2 l))) (gains_apart x (get_or r 1 nan) p (5 * j + 1) (s 0 l) (far 1))
      ∙ ap (λ l. s 4 (s 3 (s 2 (s 1 l)))) (gains_apart x (get_or r 0 nan) p (5 * j + 0) l (far 0))

  -- element e's slots are set, then its inner surface gains
  slots_gain : (e : ℕ) (a b c d f : Float) (l : List Float)
      → add_gains x e (set_slots e (a ∷ b ∷ c ∷ d ∷ f ∷ []) l) ≡ set_slots e (a ∷ b ∷ c ∷ d ∷ (f +ᶠ x) ∷ []) l
  unfolding set_slots repeat_of
  slots_gain e a b c d f l =
      gains_same x f (5 * e + 4) (set (set (set (set l (5 * e + 0) a) (5 * e + 1) b) (5 * e + 2) c) (5 * e + 3) d)

  module _ (el : Element) (dt : Float) (h : ElementHour) (t : List Float) (e : ℕ) (l : List Float) where
    sides_gain : (b : Bool) (r : List Float) → r ≡ cond b (right_sides_two el dt h t) (right_sides_five el dt h t)
        → add_gains x e (set_slots e r l) ≡ set_slots e (set r 4 (get_or r 4 nan +ᶠ x)) l
    sides_gain true r k = rw k (slots_gain e zero64 zero64 zero64 (outer_right_side el dt h (k_pli el 0) (get_or t 3 nan)) (capacity_term el dt (k_pli el 1) (get_or t 4 nan)) l)
    sides_gain false r k =
        rw k
        (slots_gain e (outer_right_side el dt h (k_pli el 0) (get_or t 0 nan)) (capacity_term el dt (k_pli el 1) (get_or t 1 nan)) (capacity_term el dt (k_pli el 2) (get_or t 2 nan)) (capacity_term el dt (k_pli el 3) (get_or t 3 nan)) (capacity_term el dt (k_pli el 4) (get_or t 4 nan)) l)

module _ (c : Coefficients) (z : Zone) (temp_prev : List Float) (hour : Conditions) (delta_t : Float) where
  -- the arrays of a time step
  step_is : assemble_step c z temp_prev hour delta_t
      ≡ assembled (zone_terms_of c z hour delta_t temp_prev) (zone_two_nodes z)
      (in_slots (at_most24 z.count) (λ e. (rows_at c z temp_prev hour delta_t e).diag) (replicate 120 zero64))
      (in_slots (at_most24 z.count) (λ e. (rows_at c z temp_prev hour delta_t e).next) (replicate 120 zero64))
      (in_slots (at_most24 z.count) (λ e. (rows_at c z temp_prev hour delta_t e).prev) (replicate 120 zero64))
      (couplings_of c (at_most24 z.count) z.building_elements temp_prev (replicate 625 zero64))
      (element_sides (at_most24 z.count) z.building_elements hour.elements delta_t temp_prev (replicate 121 zero64))
  unfolding assemble_step assemble zone_two_nodes element_chains element_rows in_slots
  step_is =
      let n = at_most24 z.count in
      let es = z.building_elements in
      ap (λ (s : Chains). assembled_with (zone_terms_of c z hour delta_t temp_prev) (zone_two_nodes z) s (couplings_of c n es temp_prev (replicate 625 zero64)) (element_sides n es hour.elements delta_t temp_prev (replicate 121 zero64)))
      (chains_apart (rows_at c z temp_prev hour delta_t) (n - 0) 0 (replicate 120 zero64) (replicate 120 zero64) (replicate 120 zero64))

  pub matrix_is : (h_ve : Float) → matrix_of (assemble_step c z temp_prev hour delta_t) h_ve ≡ matrix_a c z temp_prev hour delta_t h_ve
  unfolding matrix_a dense_with couplings_of convective_sum couple_row couplings
  matrix_is h_ve = rw (step_is, at_most_twice) refl

  pub right_side_is : (gains_heat_cool f_hc_c h_ve : Float)
      → right_side_of (assemble_step c z temp_prev hour delta_t) h_ve gains_heat_cool f_hc_c ≡ vector_b c z temp_prev hour delta_t gains_heat_cool f_hc_c h_ve
  unfolding vector_b right_side_with with_gains in_slots element_sides element_right_sides right_sides_of
  right_side_is gains_heat_cool f_hc_c h_ve =
      let n = at_most24 z.count in
      let x = gains_per_area c z temp_prev hour delta_t gains_heat_cool f_hc_c in
      let sides : ℕ → List Float = λ e. right_sides_of (element z.building_elements e) delta_t (element_hour hour.elements e) (element_slots temp_prev e) in
      let f : ℕ → List Float → List Float = λ e. set_slots e (sides e) in
      rw (step_is, at_most_twice)
      (ap (λ (b : List Float). set b 120 (zone_right_side c z temp_prev hour delta_t gains_heat_cool f_hc_c h_ve))
      (both f (add_gains x) (λ i j h s. slots_apart x i j h (sides j) s) (n - 0) 0 (replicate 121 zero64)
      ∙ repeat_same (λ e s. add_gains x e (f e s)) (λ e. set_slots e (right_sides_at c z temp_prev hour delta_t gains_heat_cool f_hc_c e)) n (replicate 121 zero64)
      (λ e h s. sides_gain x (element z.building_elements e) delta_t (element_hour hour.elements e) (element_slots temp_prev e) e s (is_two_nodes (element z.building_elements e).kind) (sides e) refl)))
