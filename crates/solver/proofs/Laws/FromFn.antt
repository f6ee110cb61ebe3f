-- An array that a closure gives, number by number.
use Rattle.std.proofs.Common.{◌≡◌, sym, subst, ◌∙◌, ⊎_elim, List, ℕ, zero, suc, ◌+◌, ◌≤◌, ◌<◌, eq-or-lt_of_le, arith, length, get_or}
use denote.Param.Members.{Mut}
use Rattle.std.specs.Fn.{Called}
use Rattle.std.specs.Array.{IsFromFnResult, IsFromFnResultFrom}
use Rattle.std.proofs.lemmas.List.{ext_get_or}

module _ {F A : Type 0} (g : Mut F (ℕ × Unit {0}) A) (keeps : F → Type 0) (v : ℕ → A) (n : ℕ)
    (gives : (f : F) (i : ℕ) (y : A) (q : F) → i < n → keeps f → Called g f (i, tt) y q → (y ≡ v i) × keeps q) where
  each_is : (ys : List A) (k i : ℕ) (f : F) → i + k ≤ n → keeps f → IsFromFnResultFrom g f ys i k → (j : ℕ) (d : A) → i ≤ j → j < i + k → get_or ys j d ≡ v j
  each_is ys zero i f few kept r j d a b = absurd (omega arith)
  each_is ys (suc k) i f few kept r j d a b =
      let w = gives f i r.1 r.0 (omega arith) kept r.3 in
      ⊎_elim
      (λ e. subst (λ (m : ℕ). get_or ys m d ≡ v m) e (r.2.1 d ∙ w.0))
      (λ l. each_is ys k (i + 1) r.0 (omega arith) w.1 r.4 j d (omega arith) (omega arith))
      (eq-or-lt_of_le a)

  pub from_fn_is : (xs : List A) (d : A) (ys : List A) (f : F) → keeps f → length xs ≡ n → ((i : ℕ) → i < n → get_or xs i d ≡ v i) → IsFromFnResult g f ys n → ys ≡ xs
  from_fn_is xs d ys f kept long at r =
      ext_get_or d ys xs (r.long ∙ sym long)
      (λ i h. each_is ys n 0 f (omega arith) kept r.each i d (omega arith) (omega (arith, h, r.long)) ∙ sym (at i (omega (arith, h, r.long))))
