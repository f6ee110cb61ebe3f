-- Counting loops against `repeat` and `repeat_down` of specs/Repeat.antt, and `all` of an iterator against `all` there. The invariant of a loop is that
-- the turns that are left, from the state now, give what all turns give from the state at the start; `using(repeat_turn, repeat_end)` then proves it.
use Rattle.std.proofs.Common.{◌≡◌, refl, sym, ap, ◌∙◌, Bool, true, false, ◌&&◌, List, ℕ, zero, suc, ◌+◌, ◌-◌, ◌≤◌, ◌<◌, add-one, arith}
use denote.Param.Members.{Mut}
use Rattle.std.specs.Prelude.{Option, MatchOption}
use Rattle.std.specs.declared.ops.Range.{Range}
use Rattle.std.specs.Fn.{Called}
use Rattle.std.specs.Iterator.{YieldsThen}
use Rattle.std.specs.List.{FoldsTo, list_all, range_with_len}
use Rattle.std.proofs.iter.Yields.{nat_range_steps}
use Rattle.std.proofs.lemmas.Iterator.{YieldsList-from_range}
use Rattle.std.proofs.lemmas.Iterator.Search.{all_from_yields_List}
use Rattle.solver.specs.Repeat.{repeat_of, repeat, repeat_down, all_of, all}

module _ {A : Type 0} (f : ℕ → A → A) where
  -- the next turn is done
  pub repeat_next : (i n : ℕ) (s : A) → i < n → repeat i n f s ≡ repeat (i + 1) n f (f i s)
  unfolding repeat_of
  repeat_next i n s h =
      let e : n - i ≡ suc (n - (i + 1)) = omega arith in
      rw (e, add-one i)

  -- no turn is left
  pub repeat_done : (i n : ℕ) (s : A) → n ≤ i → repeat i n f s ≡ s
  unfolding repeat_of
  repeat_done i n s h =
      let e : n - i ≡ 0 = omega arith in
      rw e

  pub down_next : (k : ℕ) (s : A) → 0 < k → repeat_down k f s ≡ repeat_down (k - 1) f (f (k - 1) s)
  unfolding repeat_down
  down_next k s h =
      let e : k ≡ suc (k - 1) = omega arith in
      ap (λ (n : ℕ). repeat_down n f s) e

  pub down_done : (k : ℕ) (s : A) → k ≤ 0 → repeat_down k f s ≡ s
  unfolding repeat_down
  down_done k s h =
      let e : k ≡ 0 = omega arith in
      rw e

module _ {A : Type 0} where
  -- a turn keeps the invariant
  pub repeat_turn : (f : ℕ → A → A) (i n : ℕ) (s s' w : A) → i < n → s' ≡ f i s → repeat i n f s ≡ w → repeat (i + 1) n f s' ≡ w
  repeat_turn f i n s s' w h e inv = rw e (sym (repeat_next f i n s h) ∙ inv)

  -- and the last state is the answer
  pub repeat_end : (f : ℕ → A → A) (i n : ℕ) (s w : A) → n ≤ i → repeat i n f s ≡ w → s ≡ w
  repeat_end f i n s w h inv = sym (repeat_done f i n s h) ∙ inv

  -- the same of a loop from above down to a, whose next turn is for number i - 1
  pub down_turn : (f : ℕ → A → A) (a i : ℕ) (s s' w : A) → a < i → s' ≡ f (i - a - 1) s → repeat_down (i - a) f s ≡ w → repeat_down (i - 1 - a) f s' ≡ w
  down_turn f a i s s' w h e inv =
      let n : i - 1 - a ≡ i - a - 1 = omega arith in
      rw (n, e) (sym (down_next f (i - a) s (omega arith)) ∙ inv)

  pub down_end : (f : ℕ → A → A) (a i : ℕ) (s w : A) → i ≤ a → repeat_down (i - a) f s ≡ w → s ≡ w
  down_end f a i s w h inv = sym (down_done f (i - a) s (omega arith)) ∙ inv

-- the test of each number of a range's list
list_all_is : (test : ℕ → Bool) (n a : ℕ) → list_all test (range_with_len a n) ≡ all_of n a test
unfolding all_of
list_all_is test zero a = refl
list_all_is test (suc n) a = rw (add-one a) (ap (λ x. test a && x) (list_all_is test n (suc a)))

-- what `(a..b).all(f)` answers, where f answers the test
pub all_from_range : {F : Type 0} {g : Mut F (ℕ × Unit {0}) Bool} (test : ℕ → Bool) (a b : ℕ) (u : Range ℕ) (f : F) (r : Bool) →
    (xs : List ℕ) × (o : Option ℕ) × (j : F) × YieldsThen nat_range_steps (record { start = a; end = b }) xs o u × FoldsTo (λ p x q. Called g p (x, tt) true q) f xs j
    × MatchOption o (r ≡ true) (λ x. (r ≡ false) × ((h : F) × Called g j (x, tt) false h)) →
    ((x : ℕ) (y : Bool) (q : F) → Called g f (x, tt) y q → (q ≡ f) × (y ≡ test x)) → r ≡ all a b test
all_from_range test a b u f r ran calls =
    all_from_yields_List test u f r ran (YieldsList-from_range a b (b - a) refl refl) calls ∙ list_all_is test (b - a) a
