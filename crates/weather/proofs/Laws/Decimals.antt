-- Laws of written decimals: each is read as it is written, and what is read is written so.
use Rattle.std.proofs.Common.{ℕ, ◌<◌, ◌≡◌, refl, sym, ap, ◌∙◌, Bool, true, false, not, cond, ◌&&◌, List, [], ◌∷◌, ◌++◌, arith, length, leb, eqb, eqb-true, ne_eqb, leb-true}
use Rattle.std.specs.Prelude.{Some, None, ◌==◌}
use Rattle.std.specs.List.{join_with_byte}
use Rattle.std.proofs.lemmas.Option.{none-some, same_Some}
use Rattle.std.proofs.lemmas.List.Splits.{join_with_byte-slice_split}
use Rattle.std.proofs.lemmas.Bool.{and_parts}
use Rattle.weather.specs.Numbers.{minus_sign, point, digit0, digit9}
use Rattle.weather.specs.Split.{split, without}
use Rattle.weather.specs.Decimal.{Decimal, is_digit, all_digits, is_digits, unsigned, decimal_of}
use Rattle.weather.specs.Claims.{signed, Written, whole, with_point}
use Rattle.weather.proofs.Laws.Split.{split_first, split_last}

-- ---- digits

-- a byte below the digits is none of them
not_digit : (b c : ℕ) → is_digit b ≡ true → c < digit0 → eqb b c ≡ false
not_digit b c h l = let a = and_parts (leb digit0 b) (leb b digit9) h in ne_eqb b c (λ e. omega (arith, leb-true digit0 b a.0, l, e))

digits_apart : (c : ℕ) (ds : List ℕ) → all_digits ds ≡ true → c < digit0 → without c ds ≡ true
unfolding without
digits_apart c [] h l = refl
digits_apart c (b ∷ ds) h l = let a = and_parts (is_digit b) (all_digits ds) h in rw (not_digit b c a.0 l, digits_apart c ds a.1 l) refl

-- one digit or more: the first, and that all are
record Digits (ds : List ℕ) : Type 0 where
  pub first : ℕ
  pub others : List ℕ
  pub are : ds ≡ first ∷ others
  pub first_is_digit : is_digit first ≡ true
  pub all : all_digits ds ≡ true

some_digits : (ds : List ℕ) → is_digits ds ≡ true → Digits ds
some_digits [] h = let z : ◌≡◌ {A = ℕ} 0 1 = cc in absurd (omega arith)
some_digits (b ∷ ds) h =
    let all = (and_parts (not (length (b ∷ ds) == 0)) (all_digits (b ∷ ds)) h).1 in
    record { first = b; others = ds; are = refl; first_is_digit = (and_parts (is_digit b) (all_digits ds) all).0; all = all }

-- ---- a decimal that is written is read so

-- a sign before what begins with a digit
sign_read : (minus : Bool) (b : ℕ) (bs : List ℕ) → is_digit b ≡ true → decimal_of (signed minus (b ∷ bs)) ≡ unsigned minus (split point (b ∷ bs))
unfolding decimal_of
sign_read true b bs h = refl
sign_read false b bs h = rw (not_digit b minus_sign h (omega arith)) refl

whole_read : (minus : Bool) (ds : List ℕ) → is_digits ds ≡ true → decimal_of (signed minus ds) ≡ Some (record { minus = minus; digits = ds; places = 0 })
unfolding unsigned
whole_read minus ds h =
    let s = some_digits ds h in
    ap (λ (l : List ℕ). decimal_of (signed minus l)) s.are
    ∙ sign_read minus s.first s.others s.first_is_digit
    ∙ ap (λ (l : List ℕ). unsigned minus (split point l)) (sym s.are)
    ∙ ap (unsigned minus) (split_last point ds (digits_apart point ds s.all (omega arith)))
    ∙ ap (λ (t : Bool). cond t (Some (record { minus = minus; digits = ds; places = 0 })) None) h

point_read : (minus : Bool) (ds es : List ℕ) → is_digits ds ≡ true → is_digits es ≡ true
    → decimal_of (signed minus (ds ++ point ∷ es)) ≡ Some (record { minus = minus; digits = ds ++ es; places = length es })
unfolding unsigned
point_read minus ds es h k =
    let s = some_digits ds h in
    let t = some_digits es k in
    ap (λ (l : List ℕ). decimal_of (signed minus (l ++ point ∷ es))) s.are
    ∙ sign_read minus s.first (s.others ++ point ∷ es) s.first_is_digit
    ∙ ap (λ (l : List ℕ). unsigned minus (split point (l ++ point ∷ es))) (sym s.are)
    ∙ ap (unsigned minus) (split_first point ds es (digits_apart point ds s.all (omega arith)))
    ∙ ap (λ (ps : List (List ℕ)). unsigned minus (ds ∷ ps)) (split_last point es (digits_apart point es t.all (omega arith)))
    ∙ ap (λ (b : Bool). cond (b && is_digits es) (Some (record { minus = minus; digits = ds ++ es; places = length es })) None) h
    ∙ ap (λ (b : Bool). cond b (Some (record { minus = minus; digits = ds ++ es; places = length es })) None) k

pub written_read : (field : List ℕ) (d : Decimal) → Written field d → decimal_of field ≡ Some d
written_read field d (whole minus ds h) = whole_read minus ds h
written_read field d (with_point minus ds es h k) = point_read minus ds es h k

-- ---- a decimal that is read is written so

unsigned_written : (minus : Bool) (bs : List ℕ) (d : Decimal) → unsigned minus (split point bs) ≡ Some d → Written (signed minus bs) d
unfolding unsigned
unsigned_written minus bs d = go (split point bs) (join_with_byte-slice_split point bs)
  where
    one : (w : List ℕ) (t : Bool) → is_digits w ≡ t → cond t (Some (record { minus = minus; digits = w; places = 0 })) None ≡ Some d → Written (signed minus w) d
    one w true h e = let q = same_Some _ d e in rw (← q) (whole minus w h)
    one w false h e = absurd (none-some d e)

    two : (w f : List ℕ) (t : Bool) → (is_digits w && is_digits f) ≡ t → cond t (Some (record { minus = minus; digits = w ++ f; places = length f })) None ≡ Some d
        → Written (signed minus (w ++ point ∷ f)) d
    two w f true h e = let a = and_parts (is_digits w) (is_digits f) h in let q = same_Some _ d e in rw (← q) (with_point minus w f a.0 a.1)
    two w f false h e = absurd (none-some d e)

    go : (ps : List (List ℕ)) → join_with_byte point ps ≡ bs → unsigned minus ps ≡ Some d → Written (signed minus bs) d
    go [] r e = absurd (none-some d e)
    go (w ∷ []) r e = rw (← r) (one w (is_digits w) refl e)
    go (w ∷ f ∷ []) r e = rw (← r) (two w f (is_digits w && is_digits f) refl e)
    go (w ∷ f ∷ g ∷ ps) r e = absurd (none-some d e)

pub read_written : (field : List ℕ) (d : Decimal) → decimal_of field ≡ Some d → Written field d
unfolding decimal_of
read_written [] d e = absurd (none-some d e)
read_written (b ∷ bs) d e = go (eqb b minus_sign) refl e
  where
    go : (t : Bool) → eqb b minus_sign ≡ t → cond t (unsigned true (split point bs)) (unsigned false (split point (b ∷ bs))) ≡ Some d → Written (b ∷ bs) d
    go true h q = rw (eqb-true b minus_sign h) (unsigned_written true bs d q)
    go false h q = unsigned_written false (b ∷ bs) d q
