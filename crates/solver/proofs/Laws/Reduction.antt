-- The reduction of a right side with the last step of each chain apart (specs/Inner/Reduced.antt).
use Rattle.std.proofs.Common.{◌≡◌, refl, sym, ap, ◌∙◌, Bool, true, false, cond, List, ℕ, ◌+◌, ◌*◌, ◌≤◌, ◌<◌, arith, length, get_or, set, replicate, length-set, get_or-set_other, set-set, Float}
use lib.Seq.{set_comm}
use lib.Ieee.{nan}
use Rattle.solver.specs.F64.{◌-ᶠ◌, ◌*ᶠ◌, ◌/ᶠ◌, zero64}
use Rattle.solver.specs.Repeat.{repeat}
use Rattle.solver.specs.Chain.{outer_slot, adjust_right_side, reduce_right_side, reduce_right_sides}
use Rattle.solver.specs.Inner.Reduced.{reduce_chain, reduce_chains, inner_share, set_inner_share, inner_shares, gathered_inner, gather_reduced}
use Rattle.solver.specs.FastSolver.{gather_dense, scatter_dense}
use Rattle.solver.specs.Inner.Reduced.{gather_inner, scatter_inner}
use Rattle.solver.proofs.Laws.Turns.{repeat_keeps, repeat_last, repeat_same, repeat_commutes, repeat_splits, repeat_overwrites, repeat_relates}
use Rattle.solver.proofs.Laws.Stores.{store, stores_out, stores_in}

-- the outer slot is one of the element's, and not its inner surface's
pub outer_most : (t : Bool) (e : ℕ) → 5 * e + cond t 3 0 ≤ 5 * e + 3
outer_most true e = omega arith
outer_most false e = omega arith

pub outer_least : (t : Bool) (e : ℕ) → 5 * e ≤ 5 * e + cond t 3 0
outer_least true e = omega arith
outer_least false e = omega arith

module _ (diag prev : List Float) where
  -- the last step of element e's chain
  abbrev pub last_step : ℕ → List Float → List Float
  last_step e b = set b (5 * e + 4) (get_or b (5 * e + 4) nan -ᶠ inner_share diag prev b e)

  -- a store at a place p that step s neither reads nor writes, of a value that does not see it
  adjust_beside : (s p : ℕ) (v : List Float → Float) (b : List Float) → (p ≡ s → ⊥) → (p ≡ s + 1 → ⊥) → v (adjust_right_side diag prev s b) ≡ v b →
      adjust_right_side diag prev s (set b p (v b)) ≡ set (adjust_right_side diag prev s b) p (v (adjust_right_side diag prev s b))
  adjust_beside s p v b n o e =
      rw (e, get_or-set_other b p (s + 1) (v b) nan (λ z. o (sym z)), get_or-set_other b p s (v b) nan (λ z. n (sym z)))
      (set_comm b p (s + 1) (v b) (get_or b (s + 1) nan -ᶠ get_or b s nan *ᶠ get_or prev (s + 1) nan /ᶠ get_or diag s nan) o)

  module _ (two_nodes : List Bool) where
    pub reduce_beside : (e p : ℕ) (v : List Float → Float) (b : List Float) →
        ((s : ℕ) → 5 * e ≤ s → s < 5 * e + 3 → (p ≡ s → ⊥) × (p ≡ s + 1 → ⊥)) →
        ((s : ℕ) (t : List Float) → 5 * e ≤ s → s < 5 * e + 3 → v (adjust_right_side diag prev s t) ≡ v t) →
        reduce_chain two_nodes diag prev e (set b p (v b)) ≡ set (reduce_chain two_nodes diag prev e b) p (v (reduce_chain two_nodes diag prev e b))
    unfolding reduce_chain
    reduce_beside e p v b apart unseen =
        let lo = outer_least (get_or two_nodes e false) e in
        repeat_commutes (adjust_right_side diag prev) (λ (t : List Float). set t p (v t)) (outer_slot two_nodes e) (5 * e + 3) b
        (λ s t h g. adjust_beside s p v t (apart s (omega arith) g).0 (apart s (omega arith) g).1 (unseen s t (omega arith) g))

    -- the last step of a chain apart
    reduce_last : (e : ℕ) (b : List Float) → reduce_right_side two_nodes diag prev e b ≡ last_step e (reduce_chain two_nodes diag prev e b)
    unfolding reduce_right_side reduce_chain
    reduce_last e b =
        let g : 5 * e + 4 ≡ 5 * e + 3 + 1 = omega arith in
        rw g (repeat_last (adjust_right_side diag prev) (outer_slot two_nodes e) (5 * e + 3) b (outer_most (get_or two_nodes e false) e))

    -- it may wait for the other chains
    last_waits : (i j : ℕ) (b : List Float) → i < j → reduce_chain two_nodes diag prev j (last_step i b) ≡ last_step i (reduce_chain two_nodes diag prev j b)
    last_waits i j b h =
        reduce_beside j (5 * i + 4) (λ (t : List Float). get_or t (5 * i + 4) nan -ᶠ inner_share diag prev t i) b
        (λ s u v. (λ e. omega arith, λ e. omega arith))
        (λ s t u v.
        let x = get_or t (s + 1) nan -ᶠ get_or t s nan *ᶠ get_or prev (s + 1) nan /ᶠ get_or diag s nan in
        rw (get_or-set_other t (s + 1) (5 * i + 4) x nan (λ e. omega arith), get_or-set_other t (s + 1) (5 * i + 3) x nan (λ e. omega arith)))

    pub lasts_apart : (n : ℕ) (b : List Float) → reduce_right_sides n two_nodes diag prev b ≡ repeat 0 n last_step (reduce_chains n two_nodes diag prev b)
    unfolding reduce_right_sides reduce_chains
    lasts_apart n b =
        repeat_same (reduce_right_side two_nodes diag prev) (λ e t. last_step e (reduce_chain two_nodes diag prev e t)) 0 n b (λ e t u v. reduce_last e t)
        ∙ repeat_splits (reduce_chain two_nodes diag prev) last_step 0 n b (omega arith) (λ i j t h g. last_waits i j t h)

  -- the last steps, of a right side y whose chains are reduced
  module _ (n : ℕ) (y : List Float) where
    abbrev pub inner : ℕ → ℕ
    inner e = 5 * e + 4

    abbrev pub less : ℕ → Float → Float
    less e x = x -ᶠ inner_share diag prev y e

    pub lasts_store : repeat 0 n last_step y ≡ repeat 0 n (store nan inner less) y
    lasts_store =
        (repeat_relates (λ (i : ℕ) (u v : List Float). (u ≡ v) × ((e : ℕ) → get_or v (5 * e + 3) nan ≡ get_or y (5 * e + 3) nan)) last_step (store nan inner less) 0 n y y (omega arith)
        (λ i u v lo hi r. (
          rw (r.0, r.1 i),
          λ e. get_or-set_other v (5 * i + 4) (5 * e + 3) (less i (get_or v (5 * i + 4) nan)) nan (λ z. omega arith) ∙ r.1 e,
        ))
        (refl, λ e. refl)).0

    -- the dense part's right side
    gather_lasts : (shares : List Float) → n ≤ 24 → length y ≡ 121 → length shares ≡ 24 →
        gather_dense n (repeat 0 n last_step y) ≡ gather_reduced n y (inner_shares n diag prev y shares)
    unfolding gather_dense gather_reduced inner_shares
    gather_lasts shares hn hy hs =
        let z = repeat 0 n (store nan inner less) y in
        let c = repeat 0 n (set_inner_share diag prev y) shares in
        let air : get_or z 120 nan ≡ get_or y 120 nan = stores_out nan inner less 0 n y 120 (omega arith) (λ i u v e. omega arith) in
        rw (lasts_store, air)
        (ap (λ (t : List Float). set t n (get_or y 120 nan))
        (repeat_same (gather_inner z) (gathered_inner (λ x. x) y c) 0 n (replicate 25 zero64)
        (λ e t u v.
        let s : get_or c e nan ≡ inner_share diag prev y e = stores_in nan (λ i. i) (λ i x. inner_share diag prev y i) 0 n shares e (λ a b n q. n q) u v (omega arith) in
        let w : get_or z (5 * e + 4) nan ≡ less e (get_or y (5 * e + 4) nan) = stores_in nan inner less 0 n y e (λ a b n q. n (omega arith)) u v (omega arith) in
        rw (w, s))))

    -- the unknowns go where the last steps stored
    scatter_lasts : (v : List Float) → scatter_dense n v (repeat 0 n last_step y) ≡ scatter_dense n v y
    unfolding scatter_dense
    scatter_lasts v =
        rw lasts_store
        (ap (λ (t : List Float). set t 120 (get_or v n nan))
        (repeat_overwrites (store nan inner less) (scatter_inner v) 0 n y (omega arith)
        (λ i j t h g.
        rw (get_or-set_other t (5 * i + 4) (5 * j + 4) (get_or v i nan) nan (λ e. omega arith))
        (set_comm t (5 * i + 4) (5 * j + 4) (get_or v i nan) (less j (get_or t (5 * j + 4) nan)) (λ e. omega arith)))
        (λ i t g. set-set t (5 * i + 4) (less i (get_or t (5 * i + 4) nan)) (get_or v i nan))))

-- Together: what the definitions find by reducing the right side whole.
module _ (diag prev : List Float) (two_nodes : List Bool) (n : ℕ) (b shares : List Float) (hn : n ≤ 24) (hb : length b ≡ 121) (hs : length shares ≡ 24) where
  abbrev pub reduced : List Float
  reduced = reduce_chains n two_nodes diag prev b

  chain_length : (e : ℕ) (t : List Float) → length (reduce_chain two_nodes diag prev e t) ≡ length t
  unfolding reduce_chain
  chain_length e t =
      repeat_keeps (λ (s : ℕ) (u : List Float). length u ≡ length t) (adjust_right_side diag prev) (outer_slot two_nodes e) (5 * e + 3) t (outer_most (get_or two_nodes e false) e)
      (λ s u lo hi q. length-set u (s + 1) (get_or u (s + 1) nan -ᶠ get_or u s nan *ᶠ get_or prev (s + 1) nan /ᶠ get_or diag s nan) ∙ q) refl

  pub reduced_length : length reduced ≡ 121
  unfolding reduce_chains
  reduced_length =
      repeat_keeps (λ (e : ℕ) (t : List Float). length t ≡ 121) (reduce_chain two_nodes diag prev) 0 n b (omega arith) (λ e t u v q. chain_length e t ∙ q) hb

  pub gather_reduced_lem : gather_dense n (reduce_right_sides n two_nodes diag prev b) ≡ gather_reduced n reduced (inner_shares n diag prev reduced shares)
  gather_reduced_lem = rw (lasts_apart diag prev two_nodes n b) (gather_lasts diag prev n reduced shares hn reduced_length hs)

  pub scatter_reduced : (v : List Float) → scatter_dense n v (reduce_right_sides n two_nodes diag prev b) ≡ scatter_dense n v reduced
  scatter_reduced v = rw (lasts_apart diag prev two_nodes n b) (scatter_lasts diag prev n reduced v)
