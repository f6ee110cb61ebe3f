-- A load is added at the inner surfaces and the air alone: it may be added once the chains are reduced (specs/Inner/Reduced.antt).
use Rattle.std.proofs.Common.{◌≡◌, refl, sym, ap, ◌∙◌, Bool, List, ℕ, ◌+◌, ◌*◌, ◌≤◌, ◌<◌, arith, length, get_or, set, replicate, length-set, get_or-set_same, get_or-set_other, set-set, Float}
use lib.Seq.{set_comm}
use lib.Ieee.{nan}
use Rattle.solver.specs.F64.{◌+ᶠ◌, ◌-ᶠ◌, ◌*ᶠ◌, ◌/ᶠ◌, zero64}
use Rattle.solver.specs.Repeat.{repeat}
use Rattle.solver.specs.Chain.{reduce_right_sides}
use Rattle.solver.specs.Inner.Reduced.{reduce_chain, reduce_chains, set_inner_share, inner_shares, gathered_inner, gather_reduced, add_gains, with_load, gather_loaded}
use Rattle.solver.specs.FastSolver.{gather_dense, scatter_dense}
use Rattle.solver.specs.Inner.Reduced.{scatter_inner}
use Rattle.solver.proofs.Laws.Turns.{repeat_same, repeat_commutes, repeat_overwrites}
use Rattle.solver.proofs.Laws.Stores.{stores_length, stores_out, stores_in}
use Rattle.solver.proofs.Laws.Reduction.{reduce_beside, reduced_length, gather_reduced_lem, scatter_reduced}

-- a load does not see the chains, nor they it
module _ (diag prev : List Float) (two_nodes : List Bool) (n : ℕ) (gains air : Float) (hn : n ≤ 24) where
  -- an element's gains
  gains_beside : (e i : ℕ) (b : List Float) → add_gains gains i (reduce_chain two_nodes diag prev e b) ≡ reduce_chain two_nodes diag prev e (add_gains gains i b)
  gains_beside e i b =
      sym (reduce_beside diag prev two_nodes e (5 * i + 4) (λ (t : List Float). get_or t (5 * i + 4) nan +ᶠ gains) b
      (λ s u v. (λ z. omega arith, λ z. omega arith))
      (λ s t u v. rw (get_or-set_other t (s + 1) (5 * i + 4) (get_or t (s + 1) nan -ᶠ get_or t s nan *ᶠ get_or prev (s + 1) nan /ᶠ get_or diag s nan) nan (λ z. omega arith))))

  load_beside : (e : ℕ) (b : List Float) → e < 24 → reduce_chain two_nodes diag prev e (with_load n gains air b) ≡ with_load n gains air (reduce_chain two_nodes diag prev e b)
  unfolding with_load
  load_beside e b h =
      reduce_beside diag prev two_nodes e 120 (λ t. air) (repeat 0 n (add_gains gains) b) (λ s u v. (λ z. omega arith, λ z. omega arith)) (λ s t u v. refl)
      ∙ ap (λ (t : List Float). set t 120 air) (sym (repeat_commutes (add_gains gains) (reduce_chain two_nodes diag prev e) 0 n b (λ i t u v. gains_beside e i t)))

  load_after : (b : List Float) → reduce_chains n two_nodes diag prev (with_load n gains air b) ≡ with_load n gains air (reduce_chains n two_nodes diag prev b)
  unfolding reduce_chains
  load_after b = repeat_commutes (reduce_chain two_nodes diag prev) (with_load n gains air) 0 n b (λ e t u v. load_beside e t (omega arith))

-- the dense part's right side with a load, and where its unknowns go
module _ (n : ℕ) (gains air : Float) (y : List Float) (hn : n ≤ 24) (hy : length y ≡ 121) where
  abbrev place : ℕ → ℕ
  place e = 5 * e + 4

  abbrev more : ℕ → Float → Float
  more e x = x +ᶠ gains

  gains_length : length (repeat 0 n (add_gains gains) y) ≡ 121
  gains_length = stores_length nan place more 0 n y ∙ hy

  load_share : (diag prev shares : List Float) → inner_shares n diag prev (with_load n gains air y) shares ≡ inner_shares n diag prev y shares
  unfolding inner_shares with_load
  load_share diag prev shares =
      let z = repeat 0 n (add_gains gains) y in
      repeat_same (set_inner_share diag prev (set z 120 air)) (set_inner_share diag prev y) 0 n shares
      (λ e t u v. rw (get_or-set_other z 120 (5 * e + 3) air nan (λ q. omega arith), stores_out nan place more 0 n y (5 * e + 3) (omega arith) (λ i a b q. omega arith)))

  gather_load : (shares : List Float) → gather_reduced n (with_load n gains air y) shares ≡ gather_loaded n y shares gains air
  unfolding gather_reduced gather_loaded with_load
  gather_load shares =
      let z = repeat 0 n (add_gains gains) y in
      rw (get_or-set_same z 120 air nan (omega (arith, gains_length)))
      (ap (λ (t : List Float). set t n air)
      (repeat_same (gathered_inner (λ x. x) (set z 120 air) shares) (gathered_inner (λ x. x +ᶠ gains) y shares) 0 n (replicate 25 zero64)
      (λ e t u v.
      let w : get_or z (5 * e + 4) nan ≡ more e (get_or y (5 * e + 4) nan) = stores_in nan place more 0 n y e (λ a b o q. o (omega arith)) u v (omega arith) in
      rw (get_or-set_other z 120 (5 * e + 4) air nan (λ q. omega arith), w))))

  scatter_load : (v : List Float) → scatter_dense n v (with_load n gains air y) ≡ scatter_dense n v y
  unfolding scatter_dense with_load
  scatter_load v =
      let z = repeat 0 n (add_gains gains) y in
      let x = get_or v n nan in
      ap (λ (t : List Float). set t 120 x)
      (repeat_commutes (scatter_inner v) (λ (t : List Float). set t 120 air) 0 n z (λ e t u w. set_comm t 120 (5 * e + 4) air (get_or v e nan) (λ q. omega arith)))
      ∙ set-set (repeat 0 n (scatter_inner v) z) 120 air x
      ∙ ap (λ (t : List Float). set t 120 x)
      (repeat_overwrites (add_gains gains) (scatter_inner v) 0 n y (omega arith)
      (λ i j t h g.
      rw (get_or-set_other t (5 * i + 4) (5 * j + 4) (get_or v i nan) nan (λ e. omega arith))
      (set_comm t (5 * i + 4) (5 * j + 4) (get_or v i nan) (more j (get_or t (5 * j + 4) nan)) (λ e. omega arith)))
      (λ i t g. set-set t (5 * i + 4) (more i (get_or t (5 * i + 4) nan)) (get_or v i nan)))

-- and with a load
module _ (diag prev : List Float) (two_nodes : List Bool) (n : ℕ) (gains air : Float) (b shares : List Float) (hn : n ≤ 24) (hb : length b ≡ 121) (hs : length shares ≡ 24) where
  load_length : length (with_load n gains air b) ≡ 121
  unfolding with_load
  load_length = length-set (repeat 0 n (add_gains gains) b) 120 air ∙ gains_length n gains air b hn hb

  pub gather_loaded_lem :
      let y = reduce_chains n two_nodes diag prev b in
      gather_dense n (reduce_right_sides n two_nodes diag prev (with_load n gains air b)) ≡ gather_loaded n y (inner_shares n diag prev y shares) gains air
  gather_loaded_lem =
      let y = reduce_chains n two_nodes diag prev b in
      let l = reduced_length diag prev two_nodes n b shares hn hb hs in
      gather_reduced_lem diag prev two_nodes n (with_load n gains air b) shares hn load_length hs
      ∙ rw (load_after diag prev two_nodes n gains air hn b, load_share n gains air y hn l diag prev shares) (gather_load n gains air y hn l (inner_shares n diag prev y shares))

  pub scatter_loaded : (v : List Float) →
      scatter_dense n v (reduce_right_sides n two_nodes diag prev (with_load n gains air b)) ≡ scatter_dense n v (reduce_chains n two_nodes diag prev b)
  scatter_loaded v =
      let y = reduce_chains n two_nodes diag prev b in
      scatter_reduced diag prev two_nodes n (with_load n gains air b) shares hn load_length hs v
      ∙ rw (load_after diag prev two_nodes n gains air hn b) (scatter_load n gains air y hn (reduced_length diag prev two_nodes n b shares hn hb hs) v)
