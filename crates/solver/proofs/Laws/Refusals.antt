-- What is refused by a sequence, by a test and by a choice.
use Rattle.std.proofs.Common.{ℕ, arith, ◌≡◌, refl, Bool, true, false, cond}
use Rattle.solver.specs.Result.{Result, ok, refused, bind, require_at}
use Rattle.solver.specs.Refusals.{RefusesOnly, accepts, refuses}

module _ {P : ℕ → ℕ → Type 0} {A : Type 0} where
  -- a sequence refuses as its parts do; the second starts from what the first accepted
  pub bind_refuses : {B : Type 0} {r : Result A} (f : A → Result B) → RefusesOnly P r → ((a : A) → r ≡ ok a → RefusesOnly P (f a)) → RefusesOnly P (bind r f)
  bind_refuses f (accepts a) q = q a refl
  bind_refuses f (refuses p) q = refuses p

  pub cond_refuses : (test : Bool) {x y : Result A} → RefusesOnly P x → RefusesOnly P y → RefusesOnly P (cond test x y)
  cond_refuses true p q = p
  cond_refuses false p q = q

  -- a refusal that there is is one that P allows
  pub refusal_by : {r : Result A} {number index : ℕ} → RefusesOnly P r → r ≡ refused number index → P number index
  refusal_by (accepts a) e = let w : ◌≡◌ {A = ℕ} 0 1 = cc in absurd (omega arith)
  refusal_by {number = number} {index = index} (refuses {number = n} {index = j} p) e =
      let u : n ≡ number = cc in
      let v : j ≡ index = cc in
      rw (← u, ← v) p

  -- what P allows Q allows
  pub refuses_also : {Q : ℕ → ℕ → Type 0} {r : Result A} → ((number index : ℕ) → P number index → Q number index) → RefusesOnly P r → RefusesOnly Q r
  refuses_also w (accepts a) = accepts a
  refuses_also w (refuses p) = refuses (w _ _ p)

-- a test refuses with its number and index
pub require_refuses : {P : ℕ → ℕ → Type 0} (test : Bool) (number index : ℕ) → P number index → RefusesOnly P (require_at test number index)
require_refuses true number index p = accepts tt
require_refuses false number index p = refuses p

-- and what comes after it starts where it holds
pub test_refuses :
    {P : ℕ → ℕ → Type 0} {B : Type 0} (test : Bool) (number index : ℕ) (f : Unit {0} → Result B) → P number index
    → (test ≡ true → RefusesOnly P (f tt)) → RefusesOnly P (bind (require_at test number index) f)
test_refuses true number index f p q = q refl
test_refuses false number index f p q = refuses p
