-- The claims of specs/Claims.antt, proved.
use Rattle.std.proofs.Common.{ℕ, zero, suc, ◌-◌, ◌<◌, ◌≡◌, refl, sym, ap, ◌∙◌, Bool, true, false, not, ◌&&◌, List, [], ◌∷◌, map, arith, length, get_or, Float}
use Rattle.std.specs.Prelude.{None, Some}
use Rattle.std.proofs.lemmas.Option.{none-some}
use lib.ListN.{length-map}
use lib.Ieee.{nan, neg, le, lt}
use Rattle.solver.specs.F64.{decimal}
use Rattle.solver.specs.Closeness.{within_state_bound}
use Rattle.zone.specs.Promise.{ok}
use Rattle.zone.proofs.Promise.{and_true, ok_inj}
use Rattle.book.specs.Model.Plain.{Contents}
use Rattle.book.specs.Model.PlainTakeUp.{contents_in}
use Rattle.book.specs.Year.{year_interface}
use Rattle.book.proofs.Model.Contents.{contents_refused, contents_of_book}
use Rattle.book.proofs.Model.Laws.Bytes.{true_not_false}
use Rattle.book.proofs.Laws.Interface.{year_laws}
use Rattle.tools.specs.Questions.{start_temperature, hour_temperatures, after, first_above, within, hours_within, nearer, none_nearer, nearest_hour, value_valid, band_valid, first_above_in, hours_within_in, nearest_hour_in}
use Rattle.tools.specs.Questions as Temperature
use Rattle.tools.specs.Claims.{count_of, hours_held, GoesAbove, FirstAbove, NearestHour, in_band, AcceptedClaims, QuestionClaims}
use Rattle.tools.proofs.Laws.Above.{above}
use Rattle.tools.proofs.Laws.Asked.{above_refused, within_refused, nearest_refused, above_invalid, within_invalid, nearest_invalid}
use Rattle.tools.proofs.Laws.FirstHour.{first_hour_lem, no_hour, FirstFound, first_found, none_found, all_of_lem, some_false}
use Rattle.tools.proofs.Laws.Nearer.{not_true, nearer_other, nearer_lt, nearer_le}
use Rattle.tools.proofs.Laws.Nearest.{distance_of, some_nearest}
use Rattle.tools.proofs.Laws.Within.{counted, none_counted, counted_none, all_counted, counted_all}
use Rattle.tools.proofs.Refusals.{contents_accepted}

not_false : (b : Bool) → not b ≡ false → b ≡ true
not_false true e = refl
not_false false e = true_not_false e

module _ (bytes : List ℕ) (c : Contents year_interface) (e : contents_in year_interface bytes ≡ ok c) where
  abbrev ts : List Float
  ts = hour_temperatures c

  abbrev start : Float
  start = start_temperature c

  as_many : length ts ≡ hours_held c
  as_many = length-map c.entries _

  -- ---- the first hour above a value

  module _ (value : Float) (valid : value_valid value ≡ true) where
    asked_above : first_above_in bytes value ≡ ok (first_above value start ts)
    unfolding first_above_in
    asked_above = rw (e, valid) refl

    goes : (i : ℕ) → i < length ts → above value start ts i ≡ true → GoesAbove c value i
    goes i h t =
        let both = and_true (le (Temperature.before start ts i) value) (lt value (after ts i)) t in
        record { held = omega (arith, h, as_many); at_or_below = both.0; above = both.1 }

    is_above : (i : ℕ) → GoesAbove c value i → above value start ts i ≡ true
    is_above i g = rw (g.at_or_below, g.above) refl

    not_above : (i : ℕ) → (GoesAbove c value i → ⊥) → i < length ts → above value start ts i ≡ false
    not_above i never h = go (above value start ts i) refl
      where
        go : (b : Bool) → above value start ts i ≡ b → above value start ts i ≡ false
        go false t = t
        go true t = absurd (never (goes i h t))

    found→ : (i : ℕ) → first_above_in bytes value ≡ ok (Some i) → FirstAbove c value i
    unfolding first_above
    found→ i q =
        let f = first_found (length ts) (above value start ts) i (ok_inj (sym asked_above ∙ q)) in
        record { goes_above = goes i f.inside f.here; none_earlier = λ j l g. true_not_false (sym (is_above j g) ∙ f.earlier j l) }

    found← : (i : ℕ) → FirstAbove c value i → first_above_in bytes value ≡ ok (Some i)
    unfolding first_above
    found← i f =
        let inside : i < length ts = omega (arith, f.goes_above.held, as_many) in
        asked_above ∙ ap ok (first_hour_lem (length ts) (above value start ts) i inside (λ j l. not_above j (f.none_earlier j l) (omega (arith, l, inside))) (is_above i f.goes_above))

    none→ : first_above_in bytes value ≡ ok None → (i : ℕ) → GoesAbove c value i → ⊥
    unfolding first_above
    none→ q i g = true_not_false (sym (is_above i g) ∙ none_found (length ts) (above value start ts) (ok_inj (sym asked_above ∙ q)) i (omega (arith, g.held, as_many)))

    none← : ((i : ℕ) → GoesAbove c value i → ⊥) → first_above_in bytes value ≡ ok None
    unfolding first_above
    none← never = asked_above ∙ ap ok (no_hour (length ts) (above value start ts) (λ j h. not_above j (never j) h))

  -- ---- the nearest hour

  module _ (value : Float) (valid : value_valid value ≡ true) where
    asked_nearest : nearest_hour_in bytes value ≡ ok (nearest_hour value ts)
    unfolding nearest_hour_in
    asked_nearest = rw (e, valid) refl

    abbrev d : ℕ → Float
    d i = distance_of value ts i

    module _ (i : ℕ) (q : nearest_hour_in bytes value ≡ ok (Some i)) where
      found : FirstFound (length ts) (none_nearer value ts) i
      unfolding nearest_hour
      found = first_found (length ts) (none_nearer value ts) i (ok_inj (sym asked_nearest ∙ q))

      not_nearer : (j : ℕ) → j < length ts → nearer (d j) (d i) ≡ false
      unfolding none_nearer
      not_nearer j h = not_true (nearer (d j) (d i)) (all_of_lem (length ts - 0) 0 _ found.here j (omega arith) (omega (arith, h)))

      farther : (j : ℕ) → j < i → nearer (d i) (d j) ≡ true
      unfolding none_nearer
      farther j l =
          let s = some_false (length ts - 0) 0 _ (found.earlier j l) in
          let k = s.0 in
          nearer_other (d k) (d i) (d j) (not_false (nearer (d k) (d j)) s.3) (not_nearer k (omega (arith, s.2)))

      nearest_is : NearestHour c value i
      nearest_is =
          record {
            held = omega (arith, found.inside, as_many);
            none_nearer_lem = λ j h. nearer_lt (d j) (d i) (not_nearer j (omega (arith, h, as_many)));
            none_as_near = λ j l. nearer_le (d i) (d j) (farther j l);
          }

    no-nearest→ : nearest_hour_in bytes value ≡ ok None → hours_held c ≡ 0
    no-nearest→ q = go (length ts) refl
      where
        go : (n : ℕ) → length ts ≡ n → hours_held c ≡ 0
        go zero h = sym as_many ∙ h
        go (suc n) h =
            let s = some_nearest value ts (omega (arith, h)) in
            absurd (none-some s.0 (sym (ok_inj (sym asked_nearest ∙ q)) ∙ s.1))

    some_nearest_is : 0 < hours_held c → (i : ℕ) × (nearest_hour_in bytes value ≡ ok (Some i))
    some_nearest_is h = let s = some_nearest value ts (omega (arith, h, as_many)) in (s.0, asked_nearest ∙ ap ok s.1)

    no-nearest← : hours_held c ≡ 0 → nearest_hour_in bytes value ≡ ok None
    unfolding nearest_hour
    no-nearest← h = asked_nearest ∙ ap ok (no_hour (length ts) (none_nearer value ts) (λ j l. absurd (omega (arith, l, as_many, h))))

  -- ---- the hours within a band

  module _ (lower upper : Float) (valid : band_valid lower upper ≡ true) where
    asked_within : hours_within_in bytes lower upper ≡ ok (hours_within lower upper ts)
    unfolding hours_within_in
    asked_within = rw (e, valid) refl

    counted_is : hours_within_in bytes lower upper ≡ ok (count_of (hours_held c) 0 (in_band c lower upper))
    counted_is = asked_within ∙ ap ok (counted lower upper ts ∙ ap (λ (n : ℕ). count_of n 0 (in_band c lower upper)) as_many)

    none-within→ : hours_within_in bytes lower upper ≡ ok 0 → (i : ℕ) → i < hours_held c → within lower upper (after ts i) ≡ false
    none-within→ q i h = none_counted lower upper ts (ok_inj (sym asked_within ∙ q)) i (omega (arith, h, as_many))

    none-within← : ((i : ℕ) → i < hours_held c → within lower upper (after ts i) ≡ false) → hours_within_in bytes lower upper ≡ ok 0
    none-within← f = asked_within ∙ ap ok (counted_none lower upper ts (λ i h. f i (omega (arith, h, as_many))))

    all-within→ : hours_within_in bytes lower upper ≡ ok (hours_held c) → (i : ℕ) → i < hours_held c → within lower upper (after ts i) ≡ true
    all-within→ q i h = all_counted lower upper ts (ok_inj (sym asked_within ∙ q) ∙ sym as_many) i (omega (arith, h, as_many))

    all-within← : ((i : ℕ) → i < hours_held c → within lower upper (after ts i) ≡ true) → hours_within_in bytes lower upper ≡ ok (hours_held c)
    all-within← f = asked_within ∙ ap ok (counted_all lower upper ts (λ i h. f i (omega (arith, h, as_many))) ∙ as_many)

  accepted_claims : AcceptedClaims c bytes
  accepted_claims =
      record {
        first = λ value valid i. (found→ value valid i, found← value valid i);
        no_first = λ value valid. (none→ value valid, none← value valid);
        nearest = λ value valid i q. nearest_is value valid i q;
        some_nearest = some_nearest_is;
        no_nearest = λ value valid. (no-nearest→ value valid, no-nearest← value valid);
        counted = counted_is;
        none_within = λ lower upper valid. (none-within→ lower upper valid, none-within← lower upper valid);
        all_within = λ lower upper valid. (all-within→ lower upper valid, all-within← lower upper valid);
        first_invalid_lem = above_invalid bytes c e;
        within_invalid = within_invalid bytes c e;
        nearest_invalid = nearest_invalid bytes c e;
      }

valid_value : (value : Float) → value_valid value ≡ (le (neg (decimal 1000000 0)) value && le value (decimal 1000000 0))
unfolding within_state_bound
valid_value value = refl

-- an entry of a list, and what is made of it
map_at : {A B : Type 0} (f : A → B) (l : List A) (i : ℕ) → i < length l → (b : B) (a : A) → get_or (map f l) i b ≡ f (get_or l i a)
map_at f [] i h b a = absurd (omega arith)
map_at f (x ∷ l) zero h b a = refl
map_at f (x ∷ l) (suc i) h b a = map_at f l i (omega arith) b a

pub question_claims : QuestionClaims
question_claims =
    record {
      after_hour = λ c i h a. map_at _ c.entries i h nan a;
      before_first = λ c. refl;
      before_next = λ c i. refl;
      valid_value = valid_value;
      valid_band = λ lower upper. refl;
      accepted = contents_accepted;
      asked_of = accepted_claims;
      refused_first = λ bytes number index h.
          let r = contents_refused year_interface year_laws bytes number index h in
          (r, above_refused bytes number index r, within_refused bytes number index r, nearest_refused bytes number index r);
      of_book = contents_of_book year_interface year_laws;
    }
