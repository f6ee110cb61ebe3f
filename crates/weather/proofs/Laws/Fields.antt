-- Laws of the tests of a field, from what was read of it.
use Rattle.std.proofs.Common.{ℕ, ◌≡◌, refl, sym, ap, ◌∙◌, Bool, true, false, cond, List, length, leb, Float}
use lib.Ieee.{binary64, round}
use Rattle.std.specs.Prelude.{Option, Some, None}
use Rattle.std.proofs.lemmas.Option.{none-some, same_Some}
use Rattle.zone.specs.Promise.{ok, refused, bind, require}
use Rattle.weather.specs.declared.fraction.Fraction.{Fraction}
use Rattle.weather.specs.declared.quantity.Quantity.{Quantity}
use Rattle.weather.specs.declared.quantity.Quantity.TheVariants.{DryBulb, Radiation}
use Rattle.weather.specs.Numbers.{most_digits, invalid, missing}
use Rattle.weather.specs.Decimal.{Decimal, decimal_of, value, is}
use Rattle.weather.specs.Weather.{tested}
use Rattle.weather.specs.Inner.Decimals.{short, short_decimal, WrittenAs, Reads, is_fraction}
use Rattle.weather.specs.Inner.Quantities.{missing_of, means_missing, range_of, reading}

-- ---- a decimal of at most 12 digits, or none

short_some : (o : Option Decimal) (d : Decimal) → short o ≡ Some d → (o ≡ Some d) × (leb (length d.digits) most_digits ≡ true)
short_some None d e = absurd (none-some d e)
short_some (Some x) d e = go (leb (length x.digits) most_digits) refl e
  where
    go : (t : Bool) → leb (length x.digits) most_digits ≡ t → cond t (Some x) None ≡ Some d → (Some x ≡ Some d) × (leb (length d.digits) most_digits ≡ true)
    go true l e = (e, ap (λ (y : Decimal). leb (length y.digits) most_digits) (sym (same_Some x d e)) ∙ l)
    go false l e = absurd (none-some d e)

module _ (is_missing : Decimal → Bool) (range : Float → Bool) (field : List ℕ) where
  not_decimal : short_decimal field ≡ None → tested is_missing range field ≡ refused invalid 0
  unfolding tested
  not_decimal e = go (decimal_of field) refl e
    where
      go : (o : Option Decimal) → decimal_of field ≡ o → short o ≡ None → tested is_missing range field ≡ refused invalid 0
      go None h e = rw h refl
      go (Some d) h e = few (leb (length d.digits) most_digits) refl e
        where
          few : (t : Bool) → leb (length d.digits) most_digits ≡ t → cond t (Some d) None ≡ None → tested is_missing range field ≡ refused invalid 0
          few true l e = absurd (none-some d (sym e))
          few false l e = rw (h, l) refl

  module _ (f : Fraction) (w : WrittenAs (short_decimal field) f) where
    value_is : round binary64 f.minus f.number f.power ≡ value w.decimal
    unfolding value
    value_is = rw (w.minus_is, w.number_is, w.power_is) refl

    is_missing_lem : is_missing w.decimal ≡ true → tested is_missing range field ≡ refused missing 0
    unfolding tested
    is_missing_lem m = let s = short_some (decimal_of field) w.decimal w.wanted_is in rw (s.0, s.1, m) refl

    tested_by_range : is_missing w.decimal ≡ false → tested is_missing range field ≡ bind (require (range (value w.decimal)) invalid) λ _. ok (value w.decimal)
    unfolding tested
    tested_by_range m = let s = short_some (decimal_of field) w.decimal w.wanted_is in rw (s.0, s.1, m) refl

    in_range : (x : Float) → is_missing w.decimal ≡ false → x ≡ round binary64 f.minus f.number f.power → range x ≡ true → tested is_missing range field ≡ ok x
    in_range x m e r = let v : x ≡ value w.decimal = e ∙ value_is in tested_by_range m ∙ rw (sym v, r) refl

    out_of_range : (x : Float) → is_missing w.decimal ≡ false → x ≡ round binary64 f.minus f.number f.power → range x ≡ false → tested is_missing range field ≡ refused invalid 0
    out_of_range x m e r = let v : x ≡ value w.decimal = e ∙ value_is in tested_by_range m ∙ rw (sym v, r) refl

-- ---- 99.9 and 9999, from the fraction that was read

fraction_is : (field : List ℕ) (f : Fraction) (w : WrittenAs (short_decimal field) f) (n k : ℕ) → is_fraction n k f ≡ is n k w.decimal
unfolding is
fraction_is field f w n k = rw (w.minus_is, w.number_is, w.power_is) refl

missing_is : (q : Quantity) (field : List ℕ) (f : Fraction) (w : WrittenAs (short_decimal field) f) → means_missing q f ≡ missing_of q w.decimal
missing_is DryBulb field f w = fraction_is field f w 999 1
missing_is Radiation field f w = fraction_is field f w 9999 0

-- ---- what a field of each kind is read as

module _ (q : Quantity) (field : List ℕ) where
  pub no_decimal : Reads (short_decimal field) None → reading q field ≡ refused invalid 0
  no_decimal e = not_decimal (missing_of q) (range_of q) field e

  module _ (f : Fraction) (w : Reads (short_decimal field) (Some f)) where
    pub means_missing_value : means_missing q f ≡ true → reading q field ≡ refused missing 0
    means_missing_value m = is_missing_lem (missing_of q) (range_of q) field f w (sym (missing_is q field f w) ∙ m)

    pub value_within : (x : Float) → means_missing q f ≡ false → x ≡ round binary64 f.minus f.number f.power → range_of q x ≡ true → reading q field ≡ ok x
    value_within x m e r = in_range (missing_of q) (range_of q) field f w x (sym (missing_is q field f w) ∙ m) e r

    pub value_outside : (x : Float) → means_missing q f ≡ false → x ≡ round binary64 f.minus f.number f.power → range_of q x ≡ false → reading q field ≡ refused invalid 0
    value_outside x m e r = out_of_range (missing_of q) (range_of q) field f w x (sym (missing_is q field f w) ∙ m) e r

pub ruleset readings = (no_decimal, means_missing_value, value_within, value_outside)
