-- The bound of ±1e6: a solve that is accepted keeps it at every node, and the state of such temperatures passes the test of a state.
use Rattle.std.proofs.Common.{◌≡◌, refl, sym, subst, ⊎_elim, Bool, true, false, cond, List, [], ◌∷◌, ℕ, zero, suc, ◌+◌, ◌*◌, ◌-◌, ◌≤◌, ◌<◌, eq-or-lt_of_le, arith, get_or, take, replicate, Float, eq-eqb}
use lib.Ieee.{nan}
use Rattle.solver.specs.Repeat.{all_of}
use Rattle.solver.specs.Closeness.{within_state_bound}
use Rattle.solver.specs.Result.{ok, require}
use Rattle.solver.specs.Chain.{outer_slot, element_within, nodes_within}
use Rattle.solver.specs.FastSolver.{at_most24, all_divisors_valid, temperatures_of, temperatures_valid, solve}
use Rattle.solver.proofs.Promise.{bind_ok, require_ok, ok_inj, and_true}
use Rattle.zone.specs.declared.record.building_element.Coefficients.{Coefficients}
use Rattle.zone.specs.declared.record.zone_record.Zone.{Zone}
use Rattle.zone.specs.declared.format.conditions.Conditions.{Conditions}
use Rattle.zone.specs.Record.BuildingElement.{node_count}
use Rattle.zone.specs.Check.Ranges.{all_in}
use Rattle.zone.specs.Physics.Ventilation.{calc_vent_heat_transfer_coeff}
use Rattle.zone.specs.Physics.System.{zone_two_nodes, matrix_a, vector_b}
use Rattle.zone.specs.Physics.NodeLayout.{nodes_at, first_node}
use Rattle.zone.specs.Physics.CalcTemperatures.{calc_temperatures}
use Rattle.zone.specs.Calls.State.{all_within_state_bound, state_test, slots_of, state_of}
use Rattle.zone.proofs.Laws.Nodes.{at_most_24_le, at_most_twice, nodes_le, first_le, located, to_slots_at_lem, to_slots_air, to_nodes_at_lem, to_nodes_air}
use Rattle.zone.proofs.Laws.Zones.{node_count_le}
use Rattle.solver.specs.Numbers as SolveNumber

-- a test of every number of a range, at one of them
pub all_at : (n i : ℕ) (test : ℕ → Bool) → all_of n i test ≡ true → (k : ℕ) → i ≤ k → k < i + n → test k ≡ true
unfolding all_of
all_at zero i test e k l m = absurd (omega arith)
all_at (suc n) i test e k l m =
    let both = and_true (test i) (all_of n (suc i) test) e in
    ⊎_elim (λ p. subst (λ (x : ℕ). test x ≡ true) p both.0) (λ p. all_at n (suc i) test both.1 k p (omega arith)) (eq-or-lt_of_le l)

all_in_lem : (test : Float → Bool) (n : ℕ) (l : List Float) → ((q : ℕ) → q < n → test (get_or l q nan) ≡ true) → all_in test (take n l) ≡ true
unfolding all_in
all_in_lem test zero l h = refl
all_in_lem test (suc n) [] h = refl
all_in_lem test (suc n) (x ∷ xs) h = rw (h 0 (omega arith)) (all_in_lem test n xs (λ q k. h (suc q) (omega arith)))

-- every node that the slots hold is within the bound
pub record Within (count : ℕ) (two_nodes : List Bool) (t : List Float) : Type 0 where
  pub element : (e j : ℕ) → e < at_most24 count → j < nodes_at two_nodes e → within_state_bound (get_or t (outer_slot two_nodes e + j) nan) ≡ true
  pub air : within_state_bound (get_or t 120 nan) ≡ true

element_at_lem : (two_nodes : List Bool) (t : List Float) (e : ℕ) → element_within two_nodes t e ≡ true
    → (j : ℕ) → j < nodes_at two_nodes e → within_state_bound (get_or t (outer_slot two_nodes e + j) nan) ≡ true
unfolding element_within
element_at_lem two_nodes t e h j l = go (get_or two_nodes e false) h l
  where
    go : (b : Bool) → all_of (5 * e + 5 - (5 * e + cond b 3 0)) (5 * e + cond b 3 0) (λ s. within_state_bound (get_or t s nan)) ≡ true
        → j < 5 * e + 5 - (5 * e + cond b 3 0) → within_state_bound (get_or t (5 * e + cond b 3 0 + j) nan) ≡ true
    go b k m = all_at _ _ (λ s. within_state_bound (get_or t s nan)) k (5 * e + cond b 3 0 + j) (omega arith) (omega arith)

within : (count : ℕ) (two_nodes : List Bool) (t : List Float) → nodes_within (at_most24 count) two_nodes t ≡ true → Within count two_nodes t
unfolding nodes_within
within count two_nodes t h =
    let both = and_true (within_state_bound (get_or t 120 nan)) (all_of (at_most24 count - 0) 0 (element_within two_nodes t)) h in
    record {
      element = λ e j l m. element_at_lem two_nodes t e (all_at (at_most24 count - 0) 0 (element_within two_nodes t) both.1 e (omega arith) (omega arith)) j m;
      air = both.0;
    }

-- an accepted step keeps the bound
pub step_within : (c : Coefficients) (z : Zone) (t : List Float) (h : Conditions) (dt gains fraction ach : Float) (t' : List Float)
    → calc_temperatures c z t h dt gains fraction ach ≡ ok t' → Within z.count (zone_two_nodes z) t'
unfolding calc_temperatures solve temperatures_valid matrix_a
step_within c z t h dt gains fraction ach t' e =
    let v = calc_vent_heat_transfer_coeff z.volume ach in
    let a = matrix_a c z t h dt v in
    let b = vector_b c z t h dt gains fraction v in
    let twelve = bind_ok (require (all_divisors_valid a) SolveNumber.divisor) _ t' e in
    let thirteen = bind_ok (require (temperatures_valid a (temperatures_of a b)) SolveNumber.temperature) _ t' twelve.2 in
    let held : nodes_within (at_most24 (at_most24 z.count)) (zone_two_nodes z) (temperatures_of a b) ≡ true =
    require_ok (temperatures_valid a (temperatures_of a b)) SolveNumber.temperature 0 thirteen.0 thirteen.1 in
    within z.count (zone_two_nodes z) t'
    (subst (λ (u : List Float). nodes_within (at_most24 z.count) (zone_two_nodes z) u ≡ true) (ok_inj thirteen.2)
    (subst (λ (n : ℕ). nodes_within n (zone_two_nodes z) (temperatures_of a b) ≡ true) (at_most_twice z.count) held))

module _ (z : Zone) (t : List Float) (kept : Within z.count (zone_two_nodes z) t) where
  node_within : (q : ℕ) → q ≤ first_node (zone_two_nodes z) (at_most24 z.count) → within_state_bound (get_or (state_of z t).temps q nan) ≡ true
  unfolding state_of
  node_within q h =
      let two = zone_two_nodes z in
      let n = z.count in
      let there : ℕ → Type 0 = λ (x : ℕ). within_state_bound (get_or (state_of z t).temps x nan) ≡ true in
      ⊎_elim
      (λ p. subst there (sym p) (rw (to_nodes_air two n t) kept.air))
      (λ l.
      let r = located two (at_most24 n) q l in
      subst there (sym r.4) (rw (to_nodes_at_lem two n t r.0 r.1 r.2 r.3) (kept.element r.0 r.1 r.2 r.3)))
      (eq-or-lt_of_le h)

  pub state_tested : z.count ≤ 24 → state_test z (state_of z t) ≡ ok tt
  unfolding state_test state_of
  state_tested few =
      let count = node_count_le z few in
      let all : all_within_state_bound (take (node_count z) (state_of z t).temps) ≡ true =
      all_in_lem within_state_bound (node_count z) (state_of z t).temps (λ q l. node_within q (omega arith)) in
      rw (eq-eqb (node_count z) (node_count z) refl, all) refl

-- ---- start-up

same_at : (n q : ℕ) (x : Float) → q < n → get_or (replicate n x) q nan ≡ x
same_at zero q x h = absurd (omega arith)
same_at (suc n) zero x h = refl
same_at (suc n) (suc q) x h = same_at n q x (omega arith)

-- every node at one temperature
pub start_within : (z : Zone) (x : Float) (n : ℕ) → within_state_bound x ≡ true
    → Within z.count (zone_two_nodes z) (slots_of z (record { nodes = n; temps = replicate 121 x }))
unfolding slots_of
start_within z x n h =
    let two = zone_two_nodes z in
    let k = z.count in
    let small = at_most_24_le k in
    record {
      element = λ e j l m.
          let f = first_le two e in
          let g = nodes_le two e in
          rw (to_slots_at_lem two k (replicate 121 x) e j l m, same_at 121 (first_node two e + j) x (omega arith)) h;
      air =
          let f = first_le two (at_most24 k) in
          rw (to_slots_air two k (replicate 121 x), same_at 121 (first_node two (at_most24 k)) x (omega arith)) h;
    }
