-- Node order to slots and back.
use Rattle.std.proofs.Common.{◌≡◌, refl, sym, subst, ◌∙◌, ⊎_elim, Bool, true, false, cond, List, ℕ, zero, suc, ◌+◌, ◌-◌, ◌*◌, ◌≤◌, ◌<◌, eq-or-lt_of_le, add-one, arith, length, get_or, replicate, length-set, get_or-set_same, get_or-set_other, ext_get_or, Float, le-ltb}
use Rattle.std.proofs.lemmas.Bool.{cases_lt}
use lib.ListN.{get_or-replicate, length-replicate}
use lib.Ieee.{nan}
use Rattle.solver.specs.F64.{zero64}
use Rattle.solver.specs.Repeat.{repeat}
use Rattle.solver.specs.Chain.{outer_slot}
use Rattle.solver.specs.FastSolver.{at_most24}
pub use Rattle.solver.proofs.Promise.{at_most as at_most_24_le}
use Rattle.zone.specs.Physics.NodeLayout.{nodes_at, first_node, to_slots_at, to_nodes_at, to_slots, to_nodes}
use Rattle.zone.proofs.Laws.Blocks.{blocks_length, blocks_other, blocks_at, apart}

pub first_next : (two_nodes : List Bool) (e : ℕ) → first_node two_nodes (e + 1) ≡ first_node two_nodes e + nodes_at two_nodes e
unfolding first_node
first_next two_nodes e = rw (add-one e) refl

-- two or five nodes, in the last slots of an element
nodes_by : (e : ℕ) (b : Bool) → 5 * e + 5 - (5 * e + cond b 3 0) ≡ cond b 2 5
nodes_by e true = omega arith
nodes_by e false = omega arith

slot_by : (e : ℕ) (b : Bool) → 5 * e + cond b 3 0 ≤ 5 * e + 3
slot_by e true = omega arith
slot_by e false = omega arith

pub at_most_twice : (n : ℕ) → at_most24 (at_most24 n) ≡ at_most24 n
at_most_twice n = rw (le-ltb 24 (at_most24 n) (at_most_24_le n)) refl

module _ (two_nodes : List Bool) where
  pub nodes_are : (e : ℕ) → nodes_at two_nodes e ≡ cond (get_or two_nodes e false) 2 5
  nodes_are e = nodes_by e (get_or two_nodes e false)

  pub slot_le : (e : ℕ) → outer_slot two_nodes e ≤ 5 * e + 3
  slot_le e = slot_by e (get_or two_nodes e false)

  pub nodes_le : (e : ℕ) → nodes_at two_nodes e ≤ 5
  nodes_le e = omega arith

  pub first_le : (e : ℕ) → first_node two_nodes e ≤ 5 * e
  unfolding first_node
  first_le zero = omega arith
  first_le (suc e) =
      let h = first_le e in
      let k = nodes_le e in
      omega arith

  slots_up : (e : ℕ) → outer_slot two_nodes e + nodes_at two_nodes e ≤ outer_slot two_nodes (suc e)
  slots_up e =
      let h = slot_le e in
      omega arith

  nodes_up : (e : ℕ) → first_node two_nodes e + nodes_at two_nodes e ≤ first_node two_nodes (suc e)
  unfolding first_node
  nodes_up e = omega arith

  -- a node before node n's element is node j of an element e
  pub located : (n q : ℕ) → q < first_node two_nodes n
      → (e : ℕ) × (j : ℕ) × (e < n) × (j < nodes_at two_nodes e) × (q ≡ first_node two_nodes e + j)
  unfolding first_node
  located zero q h = absurd (omega arith)
  located (suc n) q h =
      ⊎_elim
      (λ l. let r = located n q l in (r.0, r.1, omega (arith, r.2), r.3, r.4))
      (λ l. (n, q - first_node two_nodes n, omega arith, omega arith, omega arith))
      (cases_lt q (first_node two_nodes n))

  module _ (count : ℕ) where
    -- where the nodes stand once they are in slots
    pub to_slots_at_lem : (t : List Float) (e j : ℕ) → e < at_most24 count → j < nodes_at two_nodes e
        → get_or (to_slots count two_nodes t) (outer_slot two_nodes e + j) nan ≡ get_or t (first_node two_nodes e + j) nan
    unfolding to_slots
    to_slots_at_lem t e j he hj =
        let n = at_most24 count in
        let small = at_most_24_le count in
        let k = slot_le e in
        let all = repeat 0 n (to_slots_at two_nodes t) (replicate 121 zero64) in
        get_or-set_other all 120 (outer_slot two_nodes e + j) (get_or t (first_node two_nodes n) nan) nan (λ z. omega arith)
        ∙ blocks_at (nodes_at two_nodes) (first_node two_nodes) (outer_slot two_nodes) t slots_up (n - 0) 0 (replicate 121 zero64) e j
        (omega arith) (omega arith) hj (simp length-replicate (omega arith))

    pub to_slots_air : (t : List Float) → get_or (to_slots count two_nodes t) 120 nan ≡ get_or t (first_node two_nodes (at_most24 count)) nan
    unfolding to_slots
    to_slots_air t =
        let n = at_most24 count in
        let same : length (repeat 0 n (to_slots_at two_nodes t) (replicate 121 zero64)) ≡ 121 =
        blocks_length (nodes_at two_nodes) (first_node two_nodes) (outer_slot two_nodes) t (n - 0) 0 (replicate 121 zero64) ∙ length-replicate 121 zero64 in
        get_or-set_same (repeat 0 n (to_slots_at two_nodes t) (replicate 121 zero64)) 120 (get_or t (first_node two_nodes n) nan) nan (omega arith)

    -- and back
    pub to_nodes_at_lem : (s : List Float) (e j : ℕ) → e < at_most24 count → j < nodes_at two_nodes e
        → get_or (to_nodes count two_nodes s) (first_node two_nodes e + j) nan ≡ get_or s (outer_slot two_nodes e + j) nan
    unfolding to_nodes
    to_nodes_at_lem s e j he hj =
        let n = at_most24 count in
        let small = at_most_24_le count in
        let k = nodes_le e in
        let f = first_le e in
        let before : first_node two_nodes e + nodes_at two_nodes e ≤ first_node two_nodes n =
        apart (nodes_at two_nodes) (outer_slot two_nodes) (first_node two_nodes) s nodes_up e n he in
        get_or-set_other (repeat 0 n (to_nodes_at two_nodes s) (replicate 121 zero64)) (first_node two_nodes n) (first_node two_nodes e + j) (get_or s 120 nan) nan (λ z. omega arith)
        ∙ blocks_at (nodes_at two_nodes) (outer_slot two_nodes) (first_node two_nodes) s nodes_up (n - 0) 0 (replicate 121 zero64) e j
        (omega arith) (omega arith) hj (simp length-replicate (omega arith))

    nodes_length : (s : List Float) → length (repeat 0 (at_most24 count) (to_nodes_at two_nodes s) (replicate 121 zero64)) ≡ 121
    nodes_length s =
        blocks_length (nodes_at two_nodes) (outer_slot two_nodes) (first_node two_nodes) s (at_most24 count - 0) 0 (replicate 121 zero64)
        ∙ length-replicate 121 zero64

    pub to_nodes_air : (s : List Float) → get_or (to_nodes count two_nodes s) (first_node two_nodes (at_most24 count)) nan ≡ get_or s 120 nan
    unfolding to_nodes
    to_nodes_air s =
        let n = at_most24 count in
        let small = at_most_24_le count in
        let f = first_le n in
        let same = nodes_length s in
        get_or-set_same (repeat 0 n (to_nodes_at two_nodes s) (replicate 121 zero64)) (first_node two_nodes n) (get_or s 120 nan) nan (omega arith)

    pub to_nodes_length : (s : List Float) → length (to_nodes count two_nodes s) ≡ 121
    unfolding to_nodes
    to_nodes_length s = simp length-set (nodes_length s)

    pub to_nodes_behind : (s : List Float) (q : ℕ) → first_node two_nodes (at_most24 count) < q → q < 121
        → get_or (to_nodes count two_nodes s) q nan ≡ zero64
    unfolding to_nodes
    to_nodes_behind s q h hq =
        let n = at_most24 count in
        get_or-set_other (repeat 0 n (to_nodes_at two_nodes s) (replicate 121 zero64)) (first_node two_nodes n) q (get_or s 120 nan) nan (λ z. omega arith)
        ∙ blocks_other (nodes_at two_nodes) (outer_slot two_nodes) (first_node two_nodes) s (n - 0) 0 (replicate 121 zero64) q
        (λ e l l' j hj z.
        let before : first_node two_nodes e + nodes_at two_nodes e ≤ first_node two_nodes n =
        apart (nodes_at two_nodes) (outer_slot two_nodes) (first_node two_nodes) s nodes_up e n (omega arith) in
        omega arith)
        ∙ get_or-replicate 121 q zero64 nan hq

    -- node order to slots and back gives each node's temperature again
    nodes_again : (t : List Float) (q : ℕ) → q ≤ first_node two_nodes (at_most24 count)
        → get_or (to_nodes count two_nodes (to_slots count two_nodes t)) q nan ≡ get_or t q nan
    nodes_again t q h =
        let there : ℕ → Type 0 = λ (x : ℕ). get_or (to_nodes count two_nodes (to_slots count two_nodes t)) x nan ≡ get_or t x nan in
        ⊎_elim
        (λ z. subst there (sym z) (to_nodes_air (to_slots count two_nodes t) ∙ to_slots_air t))
        (λ l.
        let r = located (at_most24 count) q l in
        subst there (sym r.4) (to_nodes_at_lem (to_slots count two_nodes t) r.0 r.1 r.2 r.3 ∙ to_slots_at_lem t r.0 r.1 r.2 r.3))
        (eq-or-lt_of_le h)

    -- and the whole, where the places behind the air hold 0.0
    pub nodes_back : (t : List Float) → length t ≡ 121
        → ((q : ℕ) → first_node two_nodes (at_most24 count) < q → q < 121 → get_or t q nan ≡ zero64)
        → to_nodes count two_nodes (to_slots count two_nodes t) ≡ t
    nodes_back t hl clean =
        let same = to_nodes_length (to_slots count two_nodes t) in
        ext_get_or nan (to_nodes count two_nodes (to_slots count two_nodes t)) t (same ∙ sym hl)
        (λ q hq.
        let small : q < 121 = omega arith in
        ⊎_elim
        (λ l. to_nodes_behind (to_slots count two_nodes t) q l small ∙ sym (clean q l small))
        (λ l. nodes_again t q l)
        (cases_lt (first_node two_nodes (at_most24 count)) q))

    -- slots to node order and back gives the temperature of each slot that a node has
    pub slots_again : (s : List Float) (e j : ℕ) → e < at_most24 count → j < nodes_at two_nodes e
        → get_or (to_slots count two_nodes (to_nodes count two_nodes s)) (outer_slot two_nodes e + j) nan ≡ get_or s (outer_slot two_nodes e + j) nan
    slots_again s e j he hj = to_slots_at_lem (to_nodes count two_nodes s) e j he hj ∙ to_nodes_at_lem s e j he hj

    pub slots_again_air : (s : List Float) → get_or (to_slots count two_nodes (to_nodes count two_nodes s)) 120 nan ≡ get_or s 120 nan
    slots_again_air s = to_slots_air (to_nodes count two_nodes s) ∙ to_nodes_air s
