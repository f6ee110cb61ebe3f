-- An array that a closure gives, number by number, in the words of `with_terms`.
use Rattle.std.proofs.Common.{◌≡◌, ◌∙◌, List, ℕ, ◌<◌, arith, length}
use denote.Param.Members.{Mut}
use Rattle.std.specs.Fn.{Called}
use Rattle.std.specs.Array.{IsFromFnResult}
use Rattle.solver.proofs.Promise.{from_fn_is}
use Rattle.zone.specs.Physics.Slots.{with_terms}
use Rattle.zone.proofs.Laws.Terms.{terms_length, terms_at}

module _ {F A : Type 0} (g : Mut F (ℕ × Unit {0}) A) (keeps : F → Type 0) (v : ℕ → A) (n : ℕ)
    (gives : (f : F) (i : ℕ) (y : A) (q : F) → i < n → keeps f → Called g f (i, tt) y q → (y ≡ v i) × keeps q) where
  pub from_fn_terms : (l : List A) (d : A) (ys : List A) (f : F) → keeps f → length l ≡ n → IsFromFnResult g f ys n → ys ≡ with_terms n v l
  from_fn_terms l d ys f kept long r =
      from_fn_is g keeps v n gives (with_terms n v l) d ys f kept (terms_length v n l ∙ long) (λ i h. terms_at v d n l i h (omega (arith, long))) r
