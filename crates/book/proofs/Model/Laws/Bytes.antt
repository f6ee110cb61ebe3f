-- Laws of byte strings and of the search for a first number.
use Rattle.std.proofs.Common.{◌≡◌, refl, sym, ap, ◌∙◌, Bool, true, false, ◌||◌, cond, List, [], ◌∷◌, ◌++◌, append_assoc, ℕ, zero, suc, ◌+◌, ◌≤◌, ◌<◌, arith, add-zero, length, take, take_at, eqb, eqb-true, eq-eqb}
use mathlib.Core.Option.{none, some}
use Rattle.book.specs.Model.Bytes.{concat, equal_bytes, first_from, first_below}

module _ {A : Type 0} where
  pub some_inj : {a b : A} → some a ≡ some b → a ≡ b
  some_inj e = cc

  pub none_not_some : {B : Type 0} (a : A) → none ≡ some a → B
  none_not_some a e = let z : ◌≡◌ {A = ℕ} 0 1 = cc in absurd (omega arith)

  pub concat_append : (xs ys : List (List A)) → concat (xs ++ ys) ≡ concat xs ++ concat ys
  concat_append [] ys = refl
  concat_append (x ∷ xs) ys = rw (concat_append xs ys, append_assoc)

pub true_not_false : {B : Type 0} → true ≡ false → B
true_not_false e = let z : ◌≡◌ {A = ℕ} 0 1 = cc in absurd (omega arith)

pub front_of : (a b c : List ℕ) → a ≡ b ++ c → take (length b) a ≡ b
front_of a b c e = ap (take (length b)) e ∙ take_at b c (length b) refl

-- ---- equality of byte strings as a test

pub equal_self : (xs : List ℕ) → equal_bytes xs xs ≡ true
equal_self [] = refl
equal_self (x ∷ xs) = rw (eq-eqb x x refl) (equal_self xs)

pub equal_true : (xs ys : List ℕ) → equal_bytes xs ys ≡ true → xs ≡ ys
equal_true [] [] e = refl
equal_true [] (y ∷ ys) e = cc
equal_true (x ∷ xs) [] e = cc
equal_true (x ∷ xs) (y ∷ ys) e = go (eqb x y) refl e (equal_true xs ys)
  where
    go : (b : Bool) → eqb x y ≡ b → cond b (equal_bytes xs ys) false ≡ true → (equal_bytes xs ys ≡ true → xs ≡ ys) → x ∷ xs ≡ y ∷ ys
    go true q h f = cc (eqb-true x y q, f h)
    go false q h f = cc

-- ---- the first number that passes a test

first_from_lem : (n k m : ℕ) (test : ℕ → Bool) → m ≤ n → ((j : ℕ) → j < m → test (k + j) ≡ false) → (m < n → test (k + m) ≡ true) → first_from n k test ≡ k + m
unfolding first_from
first_from_lem zero k m test le before here = let e : m ≡ 0 = omega arith in rw (e, add-zero)
first_from_lem (suc n) k zero test le before here = let e : test k ≡ true = rw add-zero at (here (omega arith)) in rw (e, add-zero)
first_from_lem (suc n) k (suc m) test le before here =
    let e : test k ≡ false = rw add-zero at (before 0 (omega arith)) in
    let s : (j : ℕ) → k + 1 + j ≡ k + suc j = λ j. omega arith in
    rw e (first_from_lem n (k + 1) m test (omega arith) (λ j h. ap test (s j) ∙ before (suc j) (omega arith)) (λ h. ap test (s m) ∙ here (omega arith)) ∙ s m)

-- m is the first number below n that passes the test, or n where none does
pub first_is : (n m : ℕ) (test : ℕ → Bool) → m ≤ n → ((j : ℕ) → j < m → test j ≡ false) → (m < n → test m ≡ true) → first_below n test ≡ m
first_is n m test le before here =
    let z : (j : ℕ) → 0 + j ≡ j = λ j. omega arith in
    first_from_lem n 0 m test le (λ j h. ap test (z j) ∙ before j h) (λ h. ap test (z m) ∙ here h) ∙ z m

-- what the search finds
pub record First (n k : ℕ) (test : ℕ → Bool) : Type 0 where
  pub m : ℕ
  pub found : first_from n k test ≡ k + m
  pub le : m ≤ n
  pub before : (j : ℕ) → j < m → test (k + j) ≡ false
  pub here : m < n → test (k + m) ≡ true

pub first_of : (n k : ℕ) (test : ℕ → Bool) → First n k test
unfolding first_from
first_of zero k test = record { m = 0; found = sym (add-zero k); le = omega arith; before = λ j h. absurd (omega arith); here = λ h. absurd (omega arith) }
first_of (suc n) k test = go (test k) refl (first_of n (k + 1) test)
  where
    go : (b : Bool) → test k ≡ b → First n (k + 1) test → First (suc n) k test
    go true e r = record { m = 0; found = rw (e, add-zero); le = omega arith; before = λ j h. absurd (omega arith); here = λ h. rw add-zero e }
    go false e r =
        record {
          m = suc r.m;
          found = rw e (r.found ∙ s r.m);
          le = omega (arith, r.le);
          before = before;
          here = λ h. sym (ap test (s r.m)) ∙ r.here (omega arith);
        }
      where
        s : (j : ℕ) → k + 1 + j ≡ k + suc j
        s j = omega arith

        before : (j : ℕ) → j < suc r.m → test (k + j) ≡ false
        before zero h = rw add-zero e
        before (suc j) h = sym (ap test (s j)) ∙ r.before j (omega arith)

pub or_false : (a b : Bool) → (a || b) ≡ false → (a ≡ false) × (b ≡ false)
or_false true b e = true_not_false e
or_false false b e = (refl, e)
