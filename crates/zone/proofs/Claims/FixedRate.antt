-- The claims of specs/Claims/FixedRate.antt, proved.
use Rattle.std.proofs.Common.{ℕ, ◌≤◌, ◌≡◌, refl, sym, ◌∙◌, Bool, true, false, ◌&&◌, true≢false, List, map, length, take, leb, eqb, le-leb, eq-eqb}
use Rattle.solver.specs.Result.{ok, refused, require}
use Rattle.solver.proofs.Promise.{bind_is, bind_ok, require_ok}
use Rattle.zone.specs.Record.Numbers.{conditions_code, conditions_size, false_entry}
use Rattle.zone.specs.Format.Layout.{first_element_hour, conditions_length}
use Rattle.zone.specs.Format.Conditions.{rate_code_valid, open_bits_valid, conditions_of}
use Rattle.zone.specs.Check.ZoneTest.{zone_test}
use Rattle.zone.specs.Calls.State.{state_test, zone_and_state_test}
use Rattle.zone.specs.declared.record.building_element.Coefficients.{Coefficients}
use Rattle.zone.specs.declared.record.zone_record.Zone.{Zone}
use Rattle.zone.specs.declared.format.conditions.Conditions.{Conditions}
use Rattle.zone.specs.declared.format.conditions.FixedRate.TheVariants.{Retired, StillTaken}
use Rattle.zone.specs.declared.format.limits.Limits.{Limits}
use Rattle.zone.specs.declared.calls.state.State.{State}
use Rattle.zone.specs.Calls.Hour.{hour_version, tested_hour, tested, tested_hour_and_limits, tested_step, demand, update_temperatures, hour_step}
use Rattle.zone.specs.Claims.FixedRate.{FixedHour, CallsRefuse, OtherHours, RetiredClaims, HourStill}
use Rattle.zone.specs.Format.FixedRate.{is_fixed}
use Rattle.zone.proofs.Claims.Head.{zone_count}
use Rattle.zone.proofs.Claims.Why.{why_refuses}

-- ---- conditions

in_its_place : (z : Zone) (bs : List ℕ) → z.count ≤ 24 → length bs ≡ conditions_length z.count → is_fixed bs ≡ true → conditions_of Retired z bs ≡ refused conditions_code 0
unfolding conditions_of
in_its_place z bs few size e = rw (le-leb z.count 24 few, eq-eqb (length bs) (conditions_length z.count) size, e) refl

others : (z : Zone) (bs : List ℕ) → is_fixed bs ≡ false → conditions_of Retired z bs ≡ conditions_of StillTaken z bs
unfolding conditions_of
others z bs e = rw e refl

not_taken : (z : Zone) (bs : List ℕ) (h : Conditions) → conditions_of Retired z bs ≡ ok h → is_fixed bs ≡ true → ⊥
unfolding conditions_of
not_taken z bs h e p =
    let n = z.count in
    let x = bind_ok (require (leb n 24 && eqb (length bs) (conditions_length n)) conditions_size) _ h e in
    let v = bind_ok (require (rate_code_valid Retired bs && open_bits_valid bs (take n (map (λ e. e.treatments) z.building_elements)) first_element_hour) conditions_code) _ h x.2 in
    let k = require_ok (rate_code_valid Retired bs && open_bits_valid bs (take n (map (λ e. e.treatments) z.building_elements)) first_element_hour) conditions_code 0 v.0 v.1 in
    true≢false (sym k ∙ rw p refl)

still : (z : Zone) (bs : List ℕ) (h : Conditions) → conditions_of Retired z bs ≡ ok h → conditions_of StillTaken z bs ≡ ok h
still z bs h e = go (is_fixed bs) refl
  where
    go : (b : Bool) → is_fixed bs ≡ b → conditions_of StillTaken z bs ≡ ok h
    go false p = sym (others z bs p) ∙ e
    go true p = absurd (not_taken z bs h e p)

-- ---- the calls

module _ (c : Coefficients) (z : Zone) (s : State) (bs : List ℕ) where
  -- a call's tests, up to the conditions'
  refused_hour : FixedHour z s bs → tested_hour Retired z s bs ≡ refused conditions_code 0
  unfolding tested_hour zone_and_state_test
  refused_hour f =
      let t = bind_ok (zone_test z) _ tt f.tests in
      rw t.2 (in_its_place z bs (zone_count z t.1).1 f.size f.fixed)

  refused_tests : FixedHour z s bs → tested Retired z s bs ≡ refused conditions_code 0
  unfolding tested zone_and_state_test
  refused_tests f = let t = bind_ok (zone_test z) _ tt f.tests in rw t.1 (refused_hour f)

  hour_refused : FixedHour z s bs → (version : ℕ) (l : Limits) → 1 ≤ version → version ≤ 3 → hour_step Retired c z version l s bs ≡ refused conditions_code 0
  unfolding hour_step tested_step tested_hour_and_limits zone_and_state_test
  hour_refused f version l first newest =
      let t = bind_ok (zone_test z) _ tt f.tests in
      rw (t.1, le-leb 1 version first, le-leb version 3 newest, refused_hour f) refl

  calls_refuse : FixedHour z s bs → CallsRefuse c z s bs
  unfolding demand update_temperatures
  calls_refuse f =
      record {
        demands = rw (refused_tests f) refl;
        updates = λ gains fraction ach. rw (refused_tests f) refl;
        hour_steps = hour_refused f;
      }

  other_hours : is_fixed bs ≡ false → OtherHours c z s bs
  unfolding demand tested tested_hour hour_step tested_step tested_hour_and_limits
  other_hours e =
      let same = others z bs e in
      let asked : demand Retired c z s bs ≡ demand StillTaken c z s bs = rw same refl in
      record {
        tests = rw same refl;
        demands = asked;
        hour_steps = λ version l. rw same refl;
        why_refuses = λ n i. let w = why_refuses c z s bs n i in (λ r. asked ∙ w.0 r, λ d. w.1 (sym asked ∙ d));
      }

pub retired_claims : (z : Zone) (bs : List ℕ) → RetiredClaims z bs
retired_claims z bs =
    record {
      in_its_place = in_its_place z bs;
      others = others z bs;
      still = still z bs;
      calls_refuse = λ c s. calls_refuse c z s bs;
      other_hours = λ c s. other_hours c z s bs;
    }

-- ---- an hour step

tests_still : (z : Zone) (version : ℕ) (l : Limits) (s : State) (bytes : List ℕ) (h : Conditions) → tested_step Retired z version l s bytes ≡ ok h → tested_step StillTaken z version l s bytes ≡ ok h
unfolding tested_step tested_hour_and_limits tested_hour
tests_still z version l s bytes h e =
    let a = bind_ok (zone_test z) _ h e in
    let b = bind_ok (require (hour_version version) false_entry) _ h a.2 in
    let c = bind_ok (tested_hour Retired z s bytes) _ h b.2 in
    let d = bind_ok (state_test z s) _ c.0 c.1 in
    bind_is (zone_test z) _ a.0 _ a.1
    (bind_is (require (hour_version version) false_entry) _ b.0 _ b.1
    (bind_is (tested_hour StillTaken z s bytes) _ c.0 _ (bind_is (state_test z s) _ d.0 _ d.1 (still z bytes c.0 d.2)) c.2))

pub hour_still : (c : Coefficients) (z : Zone) → HourStill c z
unfolding hour_step
hour_still c z version l s bytes r e =
    let h = bind_ok (tested_step Retired z version l s bytes) _ r e in
    bind_is (tested_step StillTaken z version l s bytes) _ h.0 _ (tests_still z version l s bytes h.0 h.1) h.2
