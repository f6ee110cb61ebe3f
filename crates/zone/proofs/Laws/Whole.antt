-- A time step is accepted only of a zone that has all the elements that it counts: the diagonal of the outer surface of one that is missing is a
-- zero or a NaN, which no chain divides by.
use Rattle.std.proofs.Common.{ℕ, suc, ◌+◌, ◌-◌, ◌*◌, ◌≤◌, ◌<◌, ◌≡◌, sym, ap, subst, ◌∙◌, ⊎_elim, Bool, true, cond, List, eq-or-lt_of_le, mul-pos, zero-lt-suc, zero-mul, arith, eqb, ℤ, pos, length, get_or, replicate, length-set, get_or-set_other, Float}
use Prim.Native.Nat.{zero}
use mathlib.Core.Path.{refl}
use mathlib.Core.Bool.{false}
use lib.Dec.{eqb-suc-zero}
use lib.ListN.{length-replicate, get_or-eq_default}
use lib.Ieee.{nan, inf, fin, binary64, unlike, up, down, add, div, round, of_bits, eq}
use lib.Ieee.Fits.{up_pos}
use lib.Ieee.Scale.{round_same}
use Rattle.solver.specs.F64.{◌+ᶠ◌, ◌/ᶠ◌, zero64}
use Rattle.solver.specs.Closeness.{is_finite, valid_divisor}
use Rattle.solver.specs.Repeat.{all_of}
use Rattle.solver.specs.Result.{ok, require}
use Rattle.solver.specs.Chain.{outer_slot, adjust_diagonal, eliminate_chain, eliminate_chains, chain_divisors_valid, divisors_valid}
use Rattle.solver.specs.FastSolver.{at_most24, diag_of, dense_of, all_divisors_valid, solve}
use Rattle.solver.specs.Lu.{pivots_valid}
use Rattle.solver.specs.Numbers as SolveNumber
use Rattle.solver.proofs.Promise.{bind_ok, require_ok, less_or_not, and_true, repeat_keeps, repeat_stays}
use Rattle.zone.specs.declared.record.building_element.Coefficients.{Coefficients}
use Rattle.zone.specs.declared.record.building_element.Element.{Element}
use Rattle.zone.specs.declared.record.zone_record.Zone.{Zone}
use Rattle.zone.specs.declared.format.conditions.Conditions.{Conditions}
use Rattle.zone.specs.Record.BuildingElement.{is_two_nodes, number_of_nodes}
use Rattle.zone.specs.Format.Bytes.{big_endian_from}
use Rattle.zone.specs.Format.ElementLayout.{kind_of}
use Rattle.zone.specs.Format.Decode.{floats_at, no_element}
use Rattle.zone.specs.Physics.Slots.{set_slot, set_slots, in_slots, element, element_hour}
use Rattle.zone.specs.Physics.Equations.{rows_of}
use Rattle.zone.specs.Physics.System.{zone_two_nodes, rows_at, h_ci_at, share_of, matrix_a}
use Rattle.zone.specs.Physics.Ventilation.{calc_vent_heat_transfer_coeff}
use Rattle.zone.specs.Physics.CalcTemperatures.{calc_temperatures}
use Rattle.zone.proofs.Laws.Terms.{repeat_length, store_other, store_at}
use Rattle.zone.proofs.Laws.Nodes.{at_most_24_le, at_most_twice}
use Rattle.zone.proofs.Laws.Zones.{two_nodes_at}
use Rattle.zone.proofs.Laws.Bound.{all_at}

-- ---- a diagonal that is made of zeros

zero_round : (s : Bool) → round binary64 s 0 1 ≡ fin s 0 (pos 0)
unfolding round
zero_round s = refl

round_zero : (s : Bool) (den : ℕ) → 0 < den → round binary64 s 0 den ≡ fin s 0 (pos 0)
round_zero s den h = round_same binary64 s 0 den 0 1 h (zero-lt-suc 0) (omega arith) ∙ zero_round s

no_divisor_nan : valid_divisor (nan +ᶠ zero64 +ᶠ zero64 +ᶠ zero64) ≡ false
unfolding valid_divisor add of_bits eq is_finite
no_divisor_nan = refl

no_divisor_zero : (s : Bool) → valid_divisor (fin s 0 (pos 0) +ᶠ zero64 +ᶠ zero64 +ᶠ zero64) ≡ false
unfolding valid_divisor add of_bits eq is_finite
no_divisor_zero true = refl
no_divisor_zero false = refl

zero_is : zero64 ≡ fin false 0 (pos 0)
unfolding of_bits
zero_is = refl

div_is : (s : Bool) (n : ℕ) (e : ℤ) → fin false 0 (pos 0) /ᶠ fin s (suc n) e
    ≡ cond (eqb (suc n) 0) (cond (eqb 0 0) nan (inf (unlike false s))) (round binary64 (unlike false s) (0 * down e) (suc n * up e * 1))
unfolding div round
div_is s n e = refl

zero_by : (s : Bool) (n : ℕ) (e : ℤ) → zero64 /ᶠ fin s (suc n) e ≡ fin (unlike false s) 0 (pos 0)
zero_by s n e =
    let below : 0 < suc n * up e * 1 = omega (arith, mul-pos (zero-lt-suc n) (up_pos e)) in
    ap (λ (x : Float). x /ᶠ fin s (suc n) e) zero_is ∙ div_is s n e ∙ rw (eqb-suc-zero n, zero-mul (down e)) (round_zero (unlike false s) (suc n * up e * 1) below)

no_divisor : (dt : Float) → valid_divisor (zero64 /ᶠ dt +ᶠ zero64 +ᶠ zero64 +ᶠ zero64) ≡ false
no_divisor nan = let q : zero64 /ᶠ nan ≡ nan = unfold div of_bits in refl in rw q no_divisor_nan
no_divisor (inf s) = let q : zero64 /ᶠ inf s ≡ fin (unlike false s) 0 (pos 0) = unfold div of_bits in refl in rw q (no_divisor_zero (unlike false s))
no_divisor (fin s zero e) = let q : zero64 /ᶠ fin s 0 e ≡ nan = unfold div of_bits in refl in rw q no_divisor_nan
no_divisor (fin s (suc n) e) = rw (zero_by s n e) (no_divisor_zero (unlike false s))

missing_diagonal : (dt : Float) (bits : ℕ) (hci share : Float) → get_or (rows_of no_element dt bits hci share).diag 0 nan ≡ zero64 /ᶠ dt +ᶠ zero64 +ᶠ zero64 +ᶠ zero64
unfolding rows_of no_element floats_at number_of_nodes kind_of big_endian_from
missing_diagonal dt bits hci share = refl

-- ---- the first slot of an element

module _ (e : ℕ) (r d : List Float) where
  slots_length : length (set_slots e r d) ≡ length d
  unfolding set_slots
  slots_length = repeat_length (set_slot e r) (λ j l. length-set l (5 * e + j) (get_or r j nan)) 5 0 d

  slots_other : (q : ℕ) → ((j : ℕ) → j < 5 → q ≡ 5 * e + j → ⊥) → get_or (set_slots e r d) q nan ≡ get_or d q nan
  unfolding set_slots
  slots_other q h = store_other (λ (j : ℕ). 5 * e + j) (λ (j : ℕ). get_or r j nan) nan 5 0 d q (λ j a b z. h j b z)

  slots_first : 5 * e < length d → get_or (set_slots e r d) (5 * e) nan ≡ get_or r 0 nan
  unfolding set_slots
  slots_first h =
      let same : 5 * e + 0 ≡ 5 * e = omega arith in
      subst (λ (q : ℕ). get_or (set_slots e r d) q nan ≡ get_or r 0 nan) same
      (store_at (λ (j : ℕ). 5 * e + j) (λ (j : ℕ). get_or r j nan) nan 5 0 d 0 (omega arith) (omega arith) (omega arith) (λ j a z. omega arith))

in_slots_first : (n : ℕ) (r : ℕ → List Float) (d : List Float) (e : ℕ) → e < n → 5 * e < length d → get_or (in_slots n r d) (5 * e) nan ≡ get_or (r e) 0 nan
unfolding in_slots
in_slots_first n r d e h room = (repeat_keeps P (λ i. set_slots i (r i)) 0 n d (omega arith) turn (refl, (λ (z : e < 0). absurd (omega arith)))).1 h
  where
    P : ℕ → List Float → Type 0
    P i t = (length t ≡ length d) × (e < i → get_or t (5 * e) nan ≡ get_or (r e) 0 nan)

    turn : (i : ℕ) (t : List Float) → 0 ≤ i → i < n → P i t → P (suc i) (set_slots i (r i) t)
    turn i t u v q = (
      slots_length i (r i) t ∙ q.0,
      λ (w : e < suc i).
          let most : e ≤ i = omega arith in
          ⊎_elim
          (λ (z : e ≡ i).
          let inside : 5 * i < length t = omega (arith, q.0) in
          subst (λ (x : ℕ). get_or (set_slots i (r i) t) (5 * x) nan ≡ get_or (r x) 0 nan) (sym z) (slots_first i (r i) t inside))
          (λ (z : e < i). slots_other i (r i) t (5 * e) (λ j a b. omega arith) ∙ q.1 z)
          (eq-or-lt_of_le most),
    )

-- the elimination of the chains leaves it
module _ (two_nodes : List Bool) (next prev : List Float) (e : ℕ) where
  chain_first : (i : ℕ) (l : List Float) → get_or (eliminate_chain two_nodes next prev i l) (5 * e) nan ≡ get_or l (5 * e) nan
  unfolding eliminate_chain
  chain_first i l =
      repeat_keeps (λ (j : ℕ) (t : List Float). get_or t (5 * e) nan ≡ get_or l (5 * e) nan) (adjust_diagonal next prev) (outer_slot two_nodes i) (5 * i + 4) l
      (slot (get_or two_nodes i false))
      (λ j t u v q. get_or-set_other t (j + 1) (5 * e) _ nan (λ z. omega arith) ∙ q) refl
    where
      slot : (b : Bool) → 5 * i + cond b 3 0 ≤ 5 * i + 4
      slot true = omega arith
      slot false = omega arith

  chains_first : (n : ℕ) (l : List Float) → get_or (eliminate_chains n two_nodes next prev l) (5 * e) nan ≡ get_or l (5 * e) nan
  unfolding eliminate_chains
  chains_first n l = repeat_stays (λ (t : List Float). get_or t (5 * e) nan ≡ get_or l (5 * e) nan) (eliminate_chain two_nodes next prev) (λ i t q. chain_first i t ∙ q) 0 n l refl

-- ---- the step

-- every chain divides by the diagonal of its outer surface
outer_valid : (n : ℕ) (two_nodes : List Bool) (diag : List Float) (e : ℕ) → divisors_valid n two_nodes diag ≡ true → e < n
    → valid_divisor (get_or diag (outer_slot two_nodes e) nan) ≡ true
unfolding divisors_valid chain_divisors_valid
outer_valid n two_nodes diag e h l = go (get_or two_nodes e false) (all_at (n - 0) 0 (chain_divisors_valid two_nodes diag) h e (omega arith) (omega arith))
  where
    go : (b : Bool) → all_of (5 * e + 4 - (5 * e + cond b 3 0)) (5 * e + cond b 3 0) (λ s. valid_divisor (get_or diag s nan)) ≡ true
        → valid_divisor (get_or diag (5 * e + cond b 3 0) nan) ≡ true
    go true k = all_at _ _ (λ s. valid_divisor (get_or diag s nan)) k (5 * e + 3) (omega arith) (omega arith)
    go false k = all_at _ _ (λ s. valid_divisor (get_or diag s nan)) k (5 * e + 0) (omega arith) (omega arith)

module _ (c : Coefficients) (z : Zone) (t : List Float) (h : Conditions) (dt v : Float) (e : ℕ) (counted : e < at_most24 z.count) (missing : length z.building_elements ≤ e) where
  none_there : element z.building_elements e ≡ no_element
  none_there = get_or-eq_default z.building_elements no_element missing

  -- of five nodes, as a byte that is not there is 0
  outer_first : outer_slot (zone_two_nodes z) e ≡ 5 * e
  unfolding no_element kind_of
  outer_first =
      let flag : get_or (zone_two_nodes z) e false ≡ false = two_nodes_at z e counted ∙ ap (λ (x : Element). is_two_nodes x.kind) none_there in
      ap (λ (b : Bool). 5 * e + cond b 3 0) flag ∙ omega arith

  its_diagonal : get_or (diag_of (matrix_a c z t h dt v)) (5 * e) nan ≡ zero64 /ᶠ dt +ᶠ zero64 +ᶠ zero64 +ᶠ zero64
  unfolding diag_of matrix_a
  its_diagonal =
      let a = matrix_a c z t h dt v in
      let rows : ℕ → List Float = λ (i : ℕ). (rows_at c z t h dt i).diag in
      let hci = h_ci_at c z.building_elements t e in
      let share = share_of (at_most24 z.count) z.building_elements e in
      let few = at_most_24_le z.count in
      chains_first (zone_two_nodes z) a.next a.prev e (at_most24 a.n) a.diag
      ∙ in_slots_first (at_most24 z.count) rows (replicate 120 zero64) e counted (omega (arith, length-replicate 120 zero64))
      ∙ ap (λ (x : Element). get_or (rows_of x dt (element_hour h.elements e).treatments_open hci share).diag 0 nan) none_there
      ∙ missing_diagonal dt _ _ _

  its_divisor : divisors_valid (at_most24 z.count) (zone_two_nodes z) (diag_of (matrix_a c z t h dt v)) ≡ true → ⊥
  its_divisor valid =
      let diag = diag_of (matrix_a c z t h dt v) in
      let yes : valid_divisor (get_or diag (outer_slot (zone_two_nodes z) e) nan) ≡ true = outer_valid (at_most24 z.count) (zone_two_nodes z) diag e valid counted in
      let no : valid_divisor (get_or diag (outer_slot (zone_two_nodes z) e) nan) ≡ false =
      ap (λ (q : ℕ). valid_divisor (get_or diag q nan)) outer_first ∙ ap valid_divisor its_diagonal ∙ no_divisor dt in
      let w : ◌≡◌ {A = ℕ} 0 1 = cc in
      omega arith

-- so none is missing
pub elements_there : (c : Coefficients) (z : Zone) (t : List Float) (h : Conditions) (dt gains fraction ach : Float) (t' : List Float) →
    calc_temperatures c z t h dt gains fraction ach ≡ ok t' → at_most24 z.count ≤ length z.building_elements
unfolding calc_temperatures solve all_divisors_valid matrix_a
elements_there c z t h dt gains fraction ach t' e =
    let v = calc_vent_heat_transfer_coeff z.volume ach in
    let a = matrix_a c z t h dt v in
    let twelve = bind_ok (require (all_divisors_valid a) SolveNumber.divisor) _ t' e in
    let good = require_ok (all_divisors_valid a) SolveNumber.divisor 0 twelve.0 twelve.1 in
    let both = and_true (divisors_valid (at_most24 a.n) a.two_nodes (diag_of a)) (pivots_valid (at_most24 a.n + 1) (dense_of a).matrix) good in
    let valid = subst (λ (n : ℕ). divisors_valid n (zone_two_nodes z) (diag_of a) ≡ true) (at_most_twice z.count) both.0 in
    ⊎_elim
    (λ (l : length z.building_elements < at_most24 z.count). absurd (its_divisor c z t h dt v (length z.building_elements) l (omega arith) valid))
    (λ (l : at_most24 z.count ≤ length z.building_elements). l)
    (less_or_not (length z.building_elements) (at_most24 z.count))
