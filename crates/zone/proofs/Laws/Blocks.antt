-- A loop that moves blocks of numbers from one list to another: block e has k e numbers, from place src e to place dst e.
use Rattle.std.proofs.Common.{◌≡◌, refl, subst, ◌∙◌, ⊎_elim, List, ℕ, zero, suc, ◌+◌, ◌-◌, ◌≤◌, ◌<◌, eq-or-lt_of_le, arith, length, get_or, length-set, Float}
use lib.Ieee.{nan}
use Rattle.solver.specs.Repeat.{repeat_of}
use Rattle.zone.specs.Physics.NodeLayout.{move, copy_nodes}
use Rattle.zone.proofs.Laws.Terms.{repeat_length, store_other, store_at}

module _ (k from to : ℕ) (a : List Float) where
  move_other : (b : List Float) (q : ℕ) → ((j : ℕ) → j < k → q ≡ to + j → ⊥) → get_or (copy_nodes k from to a b) q nan ≡ get_or b q nan
  unfolding copy_nodes
  move_other b q h =
      store_other (λ (j : ℕ). to + j) (λ (j : ℕ). get_or a (from + j) nan) nan (k - 0) 0 b q (λ j i l e. h j (omega arith) e)

  move_at : (b : List Float) (j : ℕ) → j < k → to + j < length b → get_or (copy_nodes k from to a b) (to + j) nan ≡ get_or a (from + j) nan
  unfolding copy_nodes
  move_at b j h hb =
      store_at (λ (j : ℕ). to + j) (λ (j : ℕ). get_or a (from + j) nan) nan (k - 0) 0 b j (omega arith) (omega arith) hb (λ m l e. omega arith)

  move_length : (b : List Float) → length (copy_nodes k from to a b) ≡ length b
  unfolding copy_nodes
  move_length b = repeat_length (move from to a) (λ j l. length-set l (to + j) (get_or a (from + j) nan)) (k - 0) 0 b

module _ (k src dst : ℕ → ℕ) (a : List Float) where
  abbrev pub block : ℕ → List Float → List Float
  block e b = copy_nodes (k e) (src e) (dst e) a b

  pub blocks_length : (m i : ℕ) (b : List Float) → length (repeat_of m i block b) ≡ length b
  blocks_length m i b = repeat_length block (λ e l. move_length (k e) (src e) (dst e) a l) m i b

  -- a place of no block
  pub blocks_other : (m i : ℕ) (b : List Float) (q : ℕ) → ((e : ℕ) → i ≤ e → e < i + m → (j : ℕ) → j < k e → q ≡ dst e + j → ⊥)
      → get_or (repeat_of m i block b) q nan ≡ get_or b q nan
  unfolding repeat_of
  blocks_other zero i b q h = refl
  blocks_other (suc m) i b q h =
      blocks_other m (suc i) (block i b) q (λ e l l'. h e (omega arith) (omega arith))
      ∙ move_other (k i) (src i) (dst i) a b q (h i (omega arith) (omega arith))

  module _ (up : (e : ℕ) → dst e + k e ≤ dst (suc e)) where
    pub rises : (m e : ℕ) → dst e + k e ≤ dst (suc e + m)
    rises zero e = subst (λ (x : ℕ). dst e + k e ≤ dst x) (omega arith) (up e)
    rises (suc m) e =
        let h : dst e + k e ≤ dst (suc e + m) = rises m e in
        let g : dst (suc e + m) + k (suc e + m) ≤ dst (suc (suc e + m)) = up (suc e + m) in
        let p : suc (suc e + m) ≡ suc e + suc m = omega arith in
        subst (λ (x : ℕ). dst e + k e ≤ dst x) p (omega arith)

    -- a later block starts behind
    pub apart : (e e' : ℕ) → e < e' → dst e + k e ≤ dst e'
    apart e e' h =
        let p : suc e + (e' - suc e) ≡ e' = omega arith in
        subst (λ (x : ℕ). dst e + k e ≤ dst x) p (rises (e' - suc e) e)

    first_block : (m i : ℕ) (b : List Float) (j : ℕ) → j < k i → dst i + j < length b
        → get_or (repeat_of m (suc i) block (block i b)) (dst i + j) nan ≡ get_or a (src i + j) nan
    first_block m i b j h hb =
        blocks_other m (suc i) (block i b) (dst i + j)
        (λ e l l' j' lj z. let g : dst i + k i ≤ dst e = apart i e (omega arith) in omega arith)
        ∙ move_at (k i) (src i) (dst i) a b j h hb

    -- what was moved
    pub blocks_at : (m i : ℕ) (b : List Float) (e j : ℕ) → i ≤ e → e < i + m → j < k e → dst e + j < length b
        → get_or (repeat_of m i block b) (dst e + j) nan ≡ get_or a (src e + j) nan
    unfolding repeat_of
    blocks_at zero i b e j h h' hj hb = absurd (omega arith)
    blocks_at (suc m) i b e j h h' hj hb =
        ⊎_elim
        (λ z.
        subst (λ (x : ℕ). j < k x → dst x + j < length b → get_or (repeat_of m (suc i) block (block i b)) (dst x + j) nan ≡ get_or a (src x + j) nan) z
        (first_block m i b j) hj hb)
        (λ z.
        let same : length (block i b) ≡ length b = move_length (k i) (src i) (dst i) a b in
        blocks_at m (suc i) (block i b) e j (omega arith) (omega arith) hj (omega arith))
        (eq-or-lt_of_le h)
