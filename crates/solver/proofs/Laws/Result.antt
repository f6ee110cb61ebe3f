-- Answers and refusals are apart; what a sequence and a test that are accepted say of their parts.
use Rattle.std.proofs.Common.{◌≡◌, refl, ap, ◌∙◌, Bool, true, false, ℕ, arith}
use Rattle.solver.specs.Result.{Result, ok, refused, bind, require_at}

module _ {A : Type 0} where
  pub ok_inj : {a b : A} → ok a ≡ ok b → a ≡ b
  ok_inj e = cc

  -- an answer is no refusal
  pub ok_not_refused : {B : Type 0} (a : A) (number index : ℕ) → ok a ≡ refused number index → B
  ok_not_refused a number index e = let z : ◌≡◌ {A = ℕ} 0 1 = cc in absurd (omega arith)

module _ {A B : Type 0} where
  -- a sequence that is accepted has an accepted first part
  pub bind_ok : (r : Result A) (f : A → Result B) (b : B) → bind r f ≡ ok b → (a : A) × (r ≡ ok a) × (f a ≡ ok b)
  bind_ok (ok a) f b e = (a, refl, e)
  bind_ok (refused c j) f b e = let z : ◌≡◌ {A = ℕ} 0 1 = cc in absurd (omega arith)

  pub bind_is : (r : Result A) (f : A → Result B) (a : A) (x : Result B) → r ≡ ok a → f a ≡ x → bind r f ≡ x
  bind_is r f a x p q = ap (λ t. bind t f) p ∙ q

pub require_ok : (b : Bool) (c j : ℕ) (u : Unit {0}) → require_at b c j ≡ ok u → b ≡ true
require_ok true c j u e = refl
require_ok false c j u e = let z : ◌≡◌ {A = ℕ} 0 1 = cc in absurd (omega arith)
