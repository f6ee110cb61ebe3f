-- Laws of an unsigned decimal: from what stands between its points, and from its digits before and after the point.
use Rattle.std.proofs.Common.{ℕ, ◌+◌, ◌*◌, ◌^◌, ◌≤◌, ◌<◌, ◌≡◌, refl, sym, ap, ◌∙◌, subst, Bool, true, false, ◌&&◌, true≢false, List, [], ◌∷◌, ◌++◌, append-nil, arith, length, length-append, take, drop, eqb, le-leb}
use lib.Pointwise.{pointwise}
use Rattle.std.specs.Prelude.{Option, Some, None}
use Rattle.std.proofs.lemmas.Iterator.{YieldsList}
use Rattle.std.proofs.lemmas.List.Folds.{list_all-append}
use Rattle.weather.specs.declared.fraction.Fraction.{Fraction}
use Rattle.std.proofs.lemmas.Bool.{and_parts}
use Rattle.weather.specs.Numbers.{minus_sign, point, most_digits}
use Rattle.weather.specs.Split.{split}
use Rattle.weather.specs.Decimal.{Decimal, is_digit, all_digits, is_digits, unsigned, decimal_of, number}
use Rattle.weather.specs.Inner.Decimals.{short, of_digits, short_unsigned, short_decimal, WrittenAs, Reads}
use Rattle.weather.proofs.Laws.Digits.{number_append, number_less, power_few}

module _ (minus : Bool) (w f : List ℕ) (W : all_digits w ≡ true) (F : all_digits f ≡ true) (m : length w + length f ≤ most_digits) where
  -- their number has room
  pub digits_few : number w * 10 ^ length f + number f < 10 ^ most_digits
  digits_few =
      let both : all_digits (w ++ f) ≡ true = rw (list_all-append is_digit w f, W, F) refl in
      omega (arith, number_append w f, number_less (w ++ f) both, power_few (length (w ++ f)) (omega (arith, m, length-append w f)))

  pub whole_few : number w < 10 ^ most_digits
  whole_few = omega (arith, number_less w W, power_few (length w) (omega (arith, m)))

  pub digits_read : (r : Fraction) → r.minus ≡ minus → r.number ≡ number w * 10 ^ length f + number f → r.power ≡ 10 ^ length f
      → WrittenAs (short (Some (of_digits minus w f))) r
  digits_read r t s q = record {
    decimal = of_digits minus w f;
    wanted_is = rw (le-leb (length (w ++ f)) most_digits (omega (arith, m, length-append w f))) refl;
    minus_is = t;
    number_is = s ∙ sym (number_append w f);
    power_is = q;
  }

-- ---- the parts that three calls of an iterator give

-- the first item of a list, and an iterator of the others
record First {S A B : Type 0} (steps : S → Option A → S → Type 0) (v : A → B) (x : A) (t : S) (all : List B) : Type 0 where
  pub others : List B
  pub are : all ≡ v x ∷ others
  pub road : YieldsList steps v t others

module _ {S A B : Type 0} {steps : S → Option A → S → Type 0} {v : A → B} where
  first_item : (all : List B) (s t : S) (r : Option A) (x : A) → YieldsList steps v s all → steps s r t → r ≡ Some x → First steps v x t all
  first_item [] s t r x road k e = absurd (road.runs x t (subst (λ (o : Option A). steps s o t) e k))
  first_item (y ∷ ys) s t r x road k e =
      let n = road.runs.1 x t (subst (λ (o : Option A). steps s o t) e k) in
      record { others = ys; are = ap (λ (z : B). z ∷ ys) (sym n.0); road = record { runs = n.1 } }

  no_item : (all : List B) (s t : S) (r : Option A) → YieldsList steps v s all → steps s r t → r ≡ None → all ≡ []
  no_item [] s t r road k e = refl
  no_item (y ∷ ys) s t r road k e = absurd (road.runs.0 t (subst (λ (o : Option A). steps s o t) e k))

-- what three calls give of the pieces between points, and what is read of it
module _ (minus : Bool) (bs : List ℕ) {S A : Type 0} {steps : S → Option A → S → Type 0} {v : A → List ℕ} {s : S} (road : YieldsList steps v s (split point bs))
    (r r' r'' : Option A) (t t' t'' : S) (k : steps s r t) (k' : steps t r' t') (k'' : steps t' r'' t'') (x : A) (e : r ≡ Some x) where
  first : First steps v x t (split point bs)
  first = first_item (split point bs) s t r x road k e

  module _ (e' : r' ≡ None) where
    one_part : split point bs ≡ v x ∷ []
    one_part = first.are ∙ ap (λ (l : List (List ℕ)). v x ∷ l) (no_item first.others t t' r' first.road k' e')

    pub whole_good : is_digits (v x) ≡ true → short (Some (of_digits minus (v x) [])) ≡ short_unsigned minus bs
    unfolding unsigned
    whole_good d = sym (ap (λ (l : List (List ℕ)). short (unsigned minus l)) one_part ∙ rw (d, append-nil (v x)) refl)

    pub whole_wrong : is_digits (v x) ≡ false → short_unsigned minus bs ≡ None
    unfolding unsigned
    whole_wrong d = ap (λ (l : List (List ℕ)). short (unsigned minus l)) one_part ∙ rw d refl

  module _ (y : A) (e' : r' ≡ Some y) where
    second : First steps v y t' first.others
    second = first_item first.others t t' r' y first.road k' e'

    module _ (e'' : r'' ≡ None) where
      two_parts : split point bs ≡ v x ∷ v y ∷ []
      two_parts = first.are ∙ ap (λ (l : List (List ℕ)). v x ∷ l) (second.are ∙ ap (λ (l : List (List ℕ)). v y ∷ l) (no_item second.others t' t'' r'' second.road k'' e''))

      pub parts_good : is_digits (v x) ≡ true → is_digits (v y) ≡ true → short (Some (of_digits minus (v x) (v y))) ≡ short_unsigned minus bs
      unfolding unsigned
      parts_good d g = sym (ap (λ (l : List (List ℕ)). short (unsigned minus l)) two_parts ∙ rw (d, g) refl)

      pub not_whole : is_digits (v x) ≡ false → short_unsigned minus bs ≡ None
      unfolding unsigned
      not_whole d = ap (λ (l : List (List ℕ)). short (unsigned minus l)) two_parts ∙ rw d refl

      pub not_fraction : is_digits (v x) ≡ true → is_digits (v y) ≡ false → short_unsigned minus bs ≡ None
      unfolding unsigned
      not_fraction d g = ap (λ (l : List (List ℕ)). short (unsigned minus l)) two_parts ∙ rw (d, g) refl

    pub third : (z : A) → r'' ≡ Some z → short_unsigned minus bs ≡ None
    unfolding unsigned
    third z e'' =
        let three = first_item second.others t' t'' r'' z second.road k'' e'' in
        ap (λ (l : List (List ℕ)). short (unsigned minus l)) (first.are ∙ ap (λ (l : List (List ℕ)). v x ∷ l) (second.are ∙ ap (λ (l : List (List ℕ)). v y ∷ l) three.are))

-- ---- a field: a minus or none

pub minus_read : (f bs : List ℕ) (r : Option Fraction) → pointwise eqb (take 1 f) (minus_sign ∷ []) ≡ true → bs ≡ drop 1 f → Reads (short_unsigned true bs) r → Reads (short_decimal f) r
unfolding decimal_of
minus_read [] bs r e d h = absurd (true≢false (sym e))
minus_read (b ∷ f) bs r e d h =
    subst (λ (o : Option Decimal). Reads o r) (ap (short_unsigned true) d ∙ rw (and_parts (eqb b minus_sign) true e).0 refl) h

pub plain_read : (f : List ℕ) (r : Option Fraction) → pointwise eqb (take 1 f) (minus_sign ∷ []) ≡ false → Reads (short_unsigned false f) r → Reads (short_decimal f) r
unfolding decimal_of unsigned
plain_read [] r e h = h
plain_read (b ∷ f) r e h = go (eqb b minus_sign) refl e
  where
    go : (t : Bool) → eqb b minus_sign ≡ t → (t && true) ≡ false → Reads (short_decimal (b ∷ f)) r
    go true k q = absurd (true≢false q)
    go false k q = subst (λ (o : Option Decimal). Reads o r) (rw k refl) h
