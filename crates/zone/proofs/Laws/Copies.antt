-- Numbers written over as one part are those written one by one.
use Rattle.std.proofs.Common.{◌≡◌, refl, sym, ◌∙◌, List, [], ◌∷◌, append_assoc, ℕ, suc, ◌+◌, ◌-◌, ◌≤◌, ◌<◌, add-zero, zero-add, arith, length, take, drop, get_or, set, length-take, length-drop, get_or-take, get_or-drop, Float}
use lib.Ieee.{nan}
use Rattle.std.proofs.lemmas.List.{drop-drop}
use Rattle.std.proofs.lemmas.List.Edits.{sets, sets-eq}
use borrow.Rule.Slice.PartMut.{put_mid}
use Rattle.solver.specs.Repeat.{repeat_of, repeat}
use Rattle.zone.specs.Physics.NodeLayout.{copy_nodes}

module _ (f : ℕ → Float) (a : ℕ) where
  one_by_one : (vs : List Float) (j : ℕ) (m : List Float) → ((k : ℕ) → k < length vs → f (j + k) ≡ get_or vs k nan)
      → repeat_of (length vs) j (λ k l. set l (a + k) (f k)) m ≡ sets m (a + j) vs
  unfolding repeat_of
  one_by_one [] j m h = refl
  one_by_one (v ∷ vs) j m h =
      let next : a + suc j ≡ suc (a + j) = omega arith in
      let later : (k : ℕ) → k < length vs → f (suc j + k) ≡ get_or vs k nan = λ k l. let e : j + suc k ≡ suc j + k = omega arith in rw e at (h (suc k) (omega arith)) in
      rw (repeat_of, rw (add-zero j) at (h 0 (omega arith))) (rw next at (one_by_one vs (suc j) (set m (a + j) v) later))

  put_is : (n w : ℕ) (vs m : List Float) → w ≡ n → length vs ≡ n → a + n ≤ length m → ((k : ℕ) → k < n → f k ≡ get_or vs k nan)
      → put_mid a w m vs ≡ repeat 0 n (λ k l. set l (a + k) (f k)) m
  put_is n w vs m q e k h =
      let room : a + length vs ≤ length m = omega arith in
      let count : n - 0 ≡ length vs = omega arith in
      let all : repeat_of (length vs) 0 (λ k l. set l (a + k) (f k)) m ≡ sets m a vs =
      rw (add-zero a) at (one_by_one vs 0 m (λ k l. rw (zero-add k) (h k (omega arith)))) in
      rw (count, all, sets-eq vs m a room, q, e, drop-drop, append_assoc) refl

-- of a list's numbers from place `from` on
pub copied_is : (k from to v w : ℕ) (a b vs : List Float) → v ≡ k → w ≡ k → from + k ≤ length a → to + k ≤ length b → vs ≡ take v (drop from a)
    → put_mid to w b vs ≡ copy_nodes k from to a b
unfolding copy_nodes
copied_is k from to v w a b vs hv hw ha hb e =
    let len : length vs ≡ k = rw e (simp (length-take, length-drop) (omega arith)) in
    put_is (λ j. get_or a (from + j) nan) to k w vs b hw len hb
    (λ j l. rw e (sym (get_or-take v (drop from a) j nan (omega arith) ∙ get_or-drop from a j nan)))
