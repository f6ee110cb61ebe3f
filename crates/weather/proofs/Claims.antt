-- The claims of specs/Claims.antt, proved.
use Rattle.std.proofs.Common.{ℕ, suc, ◌+◌, ◌≤◌, ◌<◌, ◌≡◌, refl, sym, ap, ◌∙◌, Bool, true, not, List, [], ◌∷◌, ◌++◌, append_assoc, arith, length, get_or, replicate, leb, Float}
use Rattle.std.specs.Prelude.{Option, Some, None, slice_get}
use Rattle.std.proofs.lemmas.Option.{slice_get-get_or, slice_get_past}
use lib.Ieee.{binary64, of_bits, round}
use Rattle.zone.specs.Promise.{ok, refused, bind, require}
use Rattle.zone.proofs.Promise.{bind_ok, require_ok, ok_inj}
use Rattle.zone.specs.Check.Ranges.{temperature_range, irradiance_range}
use Rattle.weather.specs.declared.weather.Weather.{Weather}
use Rattle.weather.specs.Numbers.{line_feed, carriage_return, comma, header_lines, dry_bulb_field, direct_normal_field, diffuse_horizontal_field, most_digits, absent, invalid, missing}
use Rattle.weather.specs.Split.{split, without}
use Rattle.weather.specs.Lines.{without_return, line_of, field_of}
use Rattle.weather.specs.Decimal.{Decimal, decimal_of, number, value, is}
use Rattle.weather.specs.Weather.{present, tested, dry_bulb, radiation, weather_from, weather_in, weather_of}
use Rattle.weather.specs.Claims.{joined, separated, all_without, tie, minus_zero, LineClaims, WeatherClaims}
use Rattle.weather.proofs.Laws.Written.{line_behind, line_none, first_ended, last_ended, return_off_end, return_apart, split_separated}
use Rattle.weather.proofs.Laws.Every.{every_file, every_line}
use Rattle.weather.proofs.Examples.{field_examples, file_example}
use Rattle.weather.proofs.Laws.Decimals.{written_read, read_written}

-- ---- lines

line_absent : (file : List ℕ) (line : ℕ) → line_of file line ≡ None → weather_of file line ≡ refused absent 0
unfolding weather_of
line_absent file line e = rw e refl

line_present : (file : List ℕ) (line : ℕ) (l : List ℕ) → line_of file line ≡ Some l → weather_of file line ≡ weather_in l
unfolding weather_of
line_present file line l e = rw e refl

module _ (earlier : List (List ℕ)) (n : ℕ) (apart : all_without line_feed earlier ≡ true) (many : length earlier ≡ header_lines + n) (line : List ℕ) (one : without line_feed line ≡ true) where
  fed : (rest : List ℕ) → weather_of (joined earlier ++ line ++ line_feed ∷ rest) (suc n) ≡ weather_in (without_return line)
  fed rest =
      ap (λ (file : List ℕ). weather_of file (suc n)) (append_assoc (joined earlier) line (line_feed ∷ rest))
      ∙ line_present (joined earlier ++ (line ++ line_feed ∷ rest)) (suc n) (without_return line) (line_behind earlier n (line ++ line_feed ∷ rest) apart many ∙ first_ended line rest one)

  last : weather_of (joined earlier ++ line) (suc n) ≡ weather_in line
  last = line_present (joined earlier ++ line) (suc n) line (line_behind earlier n line apart many ∙ last_ended line one)

-- eight empty lines, and a line behind them
empty_apart : all_without line_feed (replicate header_lines []) ≡ true
unfolding all_without without
empty_apart = refl

fed_alone : (line : List ℕ) → without line_feed line ≡ true → weather_of (replicate header_lines line_feed ++ line ++ line_feed ∷ []) 1 ≡ weather_in (without_return line)
unfolding joined
fed_alone line one = fed (replicate header_lines []) 0 empty_apart refl line one []

last_alone : (line : List ℕ) → without line_feed line ≡ true → weather_of (replicate header_lines line_feed ++ line) 1 ≡ weather_in line
unfolding joined
last_alone line one = last (replicate header_lines []) 0 empty_apart refl line one

line_claims : (earlier : List (List ℕ)) (n : ℕ) (line rest : List ℕ) → all_without line_feed earlier ≡ true → length earlier ≡ header_lines + n → without line_feed line ≡ true
    → LineClaims earlier n line rest
line_claims earlier n line rest apart many one =
    record {
      line_feed_lem = fed earlier n apart many line one rest;
      return_line_feed = returned;
      end_of_file = last earlier n apart many line one;
      line_alone = fed earlier n apart many line one rest ∙ sym (fed_alone line one);
      last_line_alone = last earlier n apart many line one ∙ sym (last_alone line one);
    }
  where
    -- the carriage return as the last byte of the line
    moved : joined earlier ++ line ++ carriage_return ∷ line_feed ∷ rest ≡ joined earlier ++ (line ++ carriage_return ∷ []) ++ line_feed ∷ rest
    moved =
        sym (append_assoc (joined earlier ++ line) (carriage_return ∷ []) (line_feed ∷ rest))
        ∙ ap (λ (l : List ℕ). l ++ line_feed ∷ rest) (append_assoc (joined earlier) line (carriage_return ∷ []))

    returned : weather_of (joined earlier ++ line ++ carriage_return ∷ line_feed ∷ rest) (suc n) ≡ weather_in line
    returned =
        ap (λ (file : List ℕ). weather_of file (suc n)) moved
        ∙ fed earlier n apart many (line ++ carriage_return ∷ []) (return_apart line one) rest
        ∙ ap weather_in (return_off_end line)

-- ---- fields

fields_read : (fields : List (List ℕ)) → all_without comma fields ≡ true → 16 ≤ length fields
    → weather_in (separated fields) ≡ weather_from (get_or fields 6 []) (get_or fields 14 []) (get_or fields 15 [])
unfolding weather_in field_of
fields_read [] h l = absurd (omega (arith, l))
fields_read (f ∷ fs) h l =
    rw (split_separated f fs h, slice_get-get_or (f ∷ fs) 6 [] (omega (arith, l)), slice_get-get_or (f ∷ fs) 14 [] (omega (arith, l)), slice_get-get_or (f ∷ fs) 15 [] (omega (arith, l)))
    refl

-- a line whose sixteenth field is absent
few : (a b c : Option (List ℕ)) → c ≡ None
    → bind (present absent a) (λ seventh. bind (present absent b) λ fifteenth. bind (present absent c) λ sixteenth. weather_from seventh fifteenth sixteenth) ≡ refused absent 0
few None b c e = refl
few (Some s) None c e = refl
few (Some s) (Some f) c e = rw e refl

few_in : (line : List ℕ) (ps : List (List ℕ)) → split comma line ≡ ps → length ps < 16 → weather_in line ≡ refused absent 0
unfolding weather_in field_of
few_in line ps e l =
    few (field_of line dry_bulb_field) (field_of line direct_normal_field) (field_of line diffuse_horizontal_field)
    (ap (λ (p : List (List ℕ)). slice_get p 15) e ∙ slice_get_past ps 15 (omega (arith, l)))

few_fields : (fields : List (List ℕ)) → all_without comma fields ≡ true → length fields < 16 → weather_in (separated fields) ≡ refused absent 0
unfolding separated
few_fields [] h l = few_in [] ([] ∷ []) refl (omega arith)
few_fields (f ∷ fs) h l = few_in (separated (f ∷ fs)) (f ∷ fs) (split_separated f fs h) l

-- ---- values

tie_below : value (tie 51) ≡ of_bits binary64 0x4340_0000_0000_0000
unfolding value number round of_bits
tie_below = refl

tie_above : value (tie 53) ≡ of_bits binary64 0x4340_0000_0000_0002
unfolding value number round of_bits
tie_above = refl

minus_zero_lem : value (minus_zero (48 ∷ []) 0) ≡ of_bits binary64 0x8000_0000_0000_0000
unfolding value number round of_bits
minus_zero_lem = refl

minus_zero_places : value (minus_zero (48 ∷ 48 ∷ []) 1) ≡ of_bits binary64 0x8000_0000_0000_0000
unfolding value number round of_bits
minus_zero_places = refl

-- ---- ranges

-- what a field is accepted with lies in its range
tested_range : (is_missing : Decimal → Bool) (range : Float → Bool) (field : List ℕ) (x : Float) → tested is_missing range field ≡ ok x → range x ≡ true
unfolding tested
tested_range is_missing range field x e =
    let d = bind_ok (present invalid (decimal_of field)) _ x e in
    let a = bind_ok (require (leb (length d.0.digits) most_digits) invalid) _ x d.2 in
    let b = bind_ok (require (not (is_missing d.0)) missing) _ x a.2 in
    let c = bind_ok (require (range (value d.0)) invalid) _ x b.2 in
    ap range (sym (ok_inj c.2)) ∙ require_ok (range (value d.0)) invalid 0 c.0 c.1

in_range : (file : List ℕ) (line : ℕ) (w : Weather) → weather_of file line ≡ ok w
    → (temperature_range w.dry_bulb ≡ true) × (irradiance_range w.direct_normal ≡ true) × (irradiance_range w.diffuse_horizontal ≡ true)
unfolding weather_of weather_in weather_from
in_range file line w e =
    let l = bind_ok (present absent (line_of file line)) weather_in w e in
    let f = bind_ok (present absent (field_of l.0 dry_bulb_field)) _ w l.2 in
    let g = bind_ok (present absent (field_of l.0 direct_normal_field)) _ w f.2 in
    let h = bind_ok (present absent (field_of l.0 diffuse_horizontal_field)) _ w g.2 in
    let t = bind_ok (dry_bulb f.0) _ w h.2 in
    let n = bind_ok (radiation g.0) _ w t.2 in
    let s = bind_ok (radiation h.0) _ w n.2 in
    let q = ok_inj s.2 in (
      ap (λ (v : Weather). temperature_range v.dry_bulb) (sym q) ∙ tested_range (is 999 1) temperature_range f.0 t.0 t.1,
      ap (λ (v : Weather). irradiance_range v.direct_normal) (sym q) ∙ tested_range (is 9999 0) irradiance_range g.0 n.0 n.1,
      ap (λ (v : Weather). irradiance_range v.diffuse_horizontal) (sym q) ∙ tested_range (is 9999 0) irradiance_range h.0 s.0 s.1,
    )

no_line_0 : (file : List ℕ) → weather_of file 0 ≡ refused absent 0
unfolding weather_of line_of
no_line_0 file = refl

pub weather_claims : WeatherClaims
weather_claims =
    record {
      every_file = every_file;
      every_line = every_line;
      lines = line_claims;
      no_line_0 = no_line_0;
      no_line = λ earlier n line apart h one. line_absent (joined earlier ++ line) (suc n) (line_none earlier n line apart one h);
      fields = fields_read;
      few_fields = few_fields;
      decimals = λ field d. (read_written field d, written_read field d);
      tie_below = tie_below;
      tie_above = tie_above;
      minus_zero_lem = minus_zero_lem;
      minus_zero_places = minus_zero_places;
      examples = field_examples;
      file = file_example;
      in_range = in_range;
    }
