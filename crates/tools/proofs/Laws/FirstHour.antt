-- The first hour that passes a test: what it is told by, and what it tells.
use Rattle.std.proofs.Common.{ℕ, zero, suc, ◌+◌, ◌≤◌, ◌<◌, ◌≡◌, refl, sym, ap, ◌∙◌, Bool, true, false, cond, ◌&&◌, List, [], ◌∷◌, arith, length, get_or, drop, ltb, ltb-true, ltb-false, lt-ltb, le-ltb}
use Rattle.std.specs.Prelude.{None, Some}
use Rattle.std.proofs.lemmas.Option.{none-some, same_Some}
use Rattle.solver.specs.Repeat.{all_of}
use Rattle.book.specs.Model.Bytes.{first_below}
use Rattle.book.proofs.Model.Laws.Bytes.{first_is, First, first_of, true_not_false}
use Rattle.tools.specs.Questions.{first_hour}

module _ (n : ℕ) (test : ℕ → Bool) where
  pub first_hour_lem : (i : ℕ) → i < n → ((j : ℕ) → j < i → test j ≡ false) → test i ≡ true → first_hour n test ≡ Some i
  unfolding first_hour
  first_hour_lem i h earlier here =
      let e : first_below n test ≡ i = first_is n i test (omega arith) earlier (λ l. here) in
      rw (e, lt-ltb i n h) refl

  pub no_hour : ((j : ℕ) → j < n → test j ≡ false) → first_hour n test ≡ None
  unfolding first_hour
  no_hour never =
      let e : first_below n test ≡ n = first_is n n test (omega arith) never (λ l. absurd (omega arith)) in
      rw (e, le-ltb n n (omega arith)) refl

  -- and back
  pub record FirstFound (i : ℕ) : Type 0 where
    pub inside : i < n
    pub earlier : (j : ℕ) → j < i → test j ≡ false
    pub here : test i ≡ true

  abbrev F : First n 0 test
  F = first_of n 0 test

  found_at : first_below n test ≡ F.m
  found_at = F.found ∙ (let z : 0 + F.m ≡ F.m = omega arith in z)

  at_zero : (j : ℕ) → test (0 + j) ≡ test j
  at_zero j = let z : 0 + j ≡ j = omega arith in ap test z

  pub first_found : (i : ℕ) → first_hour n test ≡ Some i → FirstFound i
  unfolding first_hour
  first_found i e = go (ltb F.m n) refl (sym (ap (λ (k : ℕ). cond (ltb k n) (Some k) None) found_at) ∙ e)
    where
      go : (b : Bool) → ltb F.m n ≡ b → cond (ltb F.m n) (Some F.m) None ≡ Some i → FirstFound i
      go true t q =
          let same : F.m ≡ i = same_Some F.m i (rw t at q) in
          rw (← same) (record {
            inside = ltb-true F.m n t;
            earlier = λ j l. sym (at_zero j) ∙ F.before j l;
            here = sym (at_zero F.m) ∙ F.here (ltb-true F.m n t);
          })
      go false t q = absurd (none-some i (rw t at q))

  pub none_found : first_hour n test ≡ None → (j : ℕ) → j < n → test j ≡ false
  unfolding first_hour
  none_found e = go (ltb F.m n) refl (sym (ap (λ (k : ℕ). cond (ltb k n) (Some k) None) found_at) ∙ e)
    where
      go : (b : Bool) → ltb F.m n ≡ b → cond (ltb F.m n) (Some F.m) None ≡ None → (j : ℕ) → j < n → test j ≡ false
      go true t q j l = absurd (none-some F.m (sym (rw t at q)))
      go false t q j l = sym (at_zero j) ∙ F.before j (omega (arith, ltb-false F.m n t, F.le))

-- ---- a test of every number of a range

pub all_true : (n i : ℕ) (test : ℕ → Bool) → ((k : ℕ) → i ≤ k → k < i + n → test k ≡ true) → all_of n i test ≡ true
unfolding all_of
all_true zero i test h = refl
all_true (suc n) i test h = rw (h i (omega arith) (omega arith)) (all_true n (suc i) test (λ k l m. h k (omega arith) (omega arith)))

pub all_false : (n i : ℕ) (test : ℕ → Bool) (k : ℕ) → i ≤ k → k < i + n → test k ≡ false → all_of n i test ≡ false
unfolding all_of
all_false zero i test k l m e = absurd (omega arith)
all_false (suc n) i test k l m e = go (test i) refl (λ h. all_false n (suc i) test k h (omega arith) e)
  where
    later : test i ≡ true → i < k
    later q = order (ltb i k) refl
      where
        order : (b : Bool) → ltb i k ≡ b → i < k
        order true t = ltb-true i k t
        order false t = let same : i ≡ k = omega (arith, ltb-false i k t) in true_not_false (sym q ∙ ap test same ∙ e)

    go : (b : Bool) → test i ≡ b → (suc i ≤ k → all_of n (suc i) test ≡ false) → (test i && all_of n (suc i) test) ≡ false
    go false q rest = rw q refl
    go true q rest = rw q (rest (later q))

-- one that fails
pub some_false : (n i : ℕ) (test : ℕ → Bool) → all_of n i test ≡ false → (k : ℕ) × (i ≤ k) × (k < i + n) × (test k ≡ false)
unfolding all_of
some_false zero i test e = true_not_false e
some_false (suc n) i test e = go (test i) refl e (some_false n (suc i) test)
  where
    go : (b : Bool) → test i ≡ b → (b && all_of n (suc i) test) ≡ false
        → (all_of n (suc i) test ≡ false → (k : ℕ) × (suc i ≤ k) × (k < suc i + n) × (test k ≡ false)) → (k : ℕ) × (i ≤ k) × (k < i + suc n) × (test k ≡ false)
    go false q h rest = (i, omega arith, omega arith, q)
    go true q h rest = let r = rest h in (r.0, omega (arith, r.1), omega (arith, r.2), r.3)

pub all_of_lem : (n i : ℕ) (test : ℕ → Bool) → all_of n i test ≡ true → (k : ℕ) → i ≤ k → k < i + n → test k ≡ true
all_of_lem n i test e k l m = go (test k) refl
  where
    go : (b : Bool) → test k ≡ b → test k ≡ true
    go true q = q
    go false q = true_not_false (sym e ∙ all_false n i test k l m q)

-- ---- a list from number k on

pub record FromNow {A : Type 0} (l : List A) (k : ℕ) (x d : A) (xs : List A) : Type 0 where
  pub inside : k < length l
  pub here : get_or l k d ≡ x
  pub others : drop (k + 1) l ≡ xs

nil_not_cons : {A B : Type 0} (x : A) (xs : List A) → [] ≡ x ∷ xs → B
nil_not_cons {A} x xs e = let z : ◌≡◌ {A = ℕ} 0 (suc (length xs)) = ap (λ (l : List A). length l) e in absurd (omega arith)

pub from_now : {A : Type 0} (l : List A) (k : ℕ) (x d : A) (xs : List A) → drop k l ≡ x ∷ xs → FromNow l k x d xs
from_now [] zero x d xs e = nil_not_cons x xs e
from_now [] (suc k) x d xs e = nil_not_cons x xs e
from_now (y ∷ l) zero x d xs e = record { inside = omega arith; here = cc; others = cc }
from_now (y ∷ l) (suc k) x d xs e = let r = from_now l k x d xs e in
    record { inside = omega (arith, r.inside); here = r.here; others = (let n : suc k + 1 ≡ suc (k + 1) = omega arith in ap (λ (m : ℕ). drop m (y ∷ l)) n) ∙ r.others }

-- none is left
pub none_from : {A : Type 0} (l : List A) (k : ℕ) → drop k l ≡ [] → length l ≤ k
none_from [] k e = omega arith
none_from (y ∷ l) zero e = nil_not_cons y l (sym e)
none_from (y ∷ l) (suc k) e = omega (arith, none_from l k e)
