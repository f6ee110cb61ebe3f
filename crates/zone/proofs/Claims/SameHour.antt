-- An hour with its fixed rate written twice is the same hour: SameHour of specs/Claims/FixedRate.antt, proved.
use Rattle.std.proofs.Common.{ℕ, ◌≤◌, ◌≡◌, refl, sym, ap, ◌∙◌, Bool, true, false, ◌&&◌, true≢false, List, map, arith, length, take, eqb, Float, le-leb, eq-eqb}
use lib.Ieee.{le, ne, is_nan}
use lib.Ieee.Compare.{differs_from_itself}
use Rattle.std.proofs.lemmas.Float.{T_from_true}
use Rattle.solver.proofs.Promise.{le_no_nan, bind_is, bind_ok, require_ok, and_true}
use Rattle.solver.specs.F64.{decimal}
use Rattle.solver.specs.Result.{ok, require, require_at}
use Rattle.zone.specs.Record.Numbers.{conditions_value, false_entry, limit_value}
use Rattle.zone.specs.Format.Bytes.{num_at, float_at, float_size}
use Rattle.zone.specs.Format.Layout.{first_rate, second_rate, first_element_hour, conditions_length}
use Rattle.zone.specs.Format.Conditions.{open_bits_valid, hour_and_gains_in_range, setpoints_in_range, ach_args_in_range, conditions_test, conditions_at, conditions_of}
use Rattle.zone.specs.Check.Ranges.{rate_range}
use Rattle.zone.specs.Check.ZoneTest.{zone_test, all_required, element_hour_in_range}
use Rattle.zone.specs.Calls.State.{state_test, slots_of}
use Rattle.zone.specs.Physics.System.{couplings, matrix_a, vector_b}
use Rattle.zone.specs.Physics.CalcTemperatures.{calc_temperatures}
use Rattle.zone.specs.Physics.HeatBalance.{heat_balance}
use Rattle.zone.specs.Hour.Demand.{space_heat_cool_demand}
use Rattle.zone.specs.declared.record.building_element.Coefficients.{Coefficients}
use Rattle.zone.specs.declared.record.zone_record.Zone.{Zone}
use Rattle.zone.specs.declared.format.conditions.Conditions.{Conditions}
use Rattle.zone.specs.declared.format.conditions.AirChangesPerHourArgument.TheVariants.{Cooling, TargetAndWindowsOpen}
use Rattle.zone.specs.declared.format.conditions.FixedRate.TheVariants.{Retired, StillTaken}
use Rattle.zone.specs.declared.format.limits.Limits.{Limits}
use Rattle.zone.specs.declared.calls.state.State.{State}
use Rattle.zone.specs.Calls.Hour.{hour_version, limits_valid, tested_hour, tested_hour_and_limits, tested_step, step, delivered, delivered_by, delivered_fraction, convective_share, hour_step}
use Rattle.zone.specs.Claims.FixedRate.{SameHour}
use Rattle.zone.specs.Format.FixedRate.{is_fixed, rate_twice}
use Rattle.zone.proofs.Claims.Conditions.{accepted}
use Rattle.zone.proofs.Laws.RateTwice.{code_is, first_is, second_is, front_float, parts_behind, opens_behind, length_same}
use Rattle.zone.proofs.Laws.OtherRates.{with_rates, demand_alike}

-- a rate in its range is a number
rate_is_number : (r : Float) → rate_range r ≡ true → ne r r ≡ false
unfolding rate_range is_nan
rate_is_number r e = go (ne r r) refl
  where
    go : (b : Bool) → ne r r ≡ b → ne r r ≡ false
    go false p = p
    go true p =
        let none = (le_no_nan r (decimal 1000 0) (and_true (le (decimal 0 0) r) (le r (decimal 1000 0)) e).1).0 in
        absurd (true≢false (sym (ap is_nan (differs_from_itself r (T_from_true (ne r r) p))) ∙ none))

module _ (z : Zone) (bs : List ℕ) (h : Conditions) (taken : conditions_of StillTaken z bs ≡ ok h) (fixed : is_fixed bs ≡ true) where
  abbrev n : ℕ
  n = z.count

  abbrev r : Float
  r = float_at bs first_rate

  long : first_element_hour ≤ length bs
  long = let a = accepted StillTaken z bs h taken in omega (arith, a.size)

  pub args_are : h.ach_args ≡ Cooling r
  unfolding conditions_at
  args_are = ap (λ (x : Conditions). x.ach_args) (accepted StillTaken z bs h taken).decoded ∙ rw fixed refl

  abbrev twice : Conditions
  twice = with_rates h (TargetAndWindowsOpen r r)

  decoded_at : conditions_at (rate_twice bs) n ≡ with_rates (conditions_at bs n) (TargetAndWindowsOpen r r)
  unfolding conditions_at
  decoded_at =
      rw (
        front_float bs long 0 (omega arith),
        front_float bs long 1 (omega arith),
        front_float bs long 2 (omega arith),
        front_float bs long 3 (omega arith),
        front_float bs long 4 (omega arith),
        front_float bs long 5 (omega arith),
        front_float bs long 6 (omega arith),
        front_float bs long 7 (omega arith),
        front_float bs long 8 (omega arith),
        front_float bs long 9 (omega arith),
        front_float bs long 10 (omega arith),
        front_float bs long 11 (omega arith),
        code_is bs long,
        first_is bs long,
        second_is bs long,
        parts_behind bs long n first_element_hour (omega arith),
      ) refl

  decoded : conditions_at (rate_twice bs) n ≡ twice
  decoded = decoded_at ∙ ap (λ x. with_rates x (TargetAndWindowsOpen r r)) (sym (accepted StillTaken z bs h taken).decoded)

  -- the tests of its values: all but the rates', the rates', and those of its elements
  tests : ((hour_and_gains_in_range h && setpoints_in_range h) ≡ true) × (ach_args_in_range h.ach_args ≡ true) × (all_required element_hour_in_range conditions_value (take n h.elements) 1 ≡ ok tt)
  unfolding conditions_test
  tests =
      let a = accepted StillTaken z bs h taken in
      let x = bind_ok (require_at (hour_and_gains_in_range h && setpoints_in_range h && ach_args_in_range h.ach_args) conditions_value 0) _ tt a.values in
      let t = require_ok (hour_and_gains_in_range h && setpoints_in_range h && ach_args_in_range h.ach_args) conditions_value 0 x.0 x.1 in
      let y = and_true (hour_and_gains_in_range h && setpoints_in_range h) (ach_args_in_range h.ach_args) t in
      (y.0, y.1, x.2)

  in_range : rate_range r ≡ true
  in_range = ap ach_args_in_range (sym args_are) ∙ tests.1

  values : conditions_test n twice ≡ ok tt
  unfolding conditions_test hour_and_gains_in_range setpoints_in_range
  values = rw (tests.0, in_range) tests.2

  pub taken_twice : conditions_of Retired z (rate_twice bs) ≡ ok twice
  unfolding conditions_of
  taken_twice =
      let a = accepted StillTaken z bs h taken in
      let opens = (and_true (eqb (num_at bs second_rate float_size) 0) (open_bits_valid bs (take n (map (λ e. e.treatments) z.building_elements)) first_element_hour) (rw fixed at a.code)).1 in
      rw (
        le-leb n 24 a.few,
        eq-eqb (length (rate_twice bs)) (conditions_length n) (length_same bs long ∙ a.size),
        code_is bs long,
        opens_behind bs long (take n (map (λ e. e.treatments) z.building_elements)) first_element_hour (omega arith),
        opens,
        decoded,
        values,
      ) refl

-- ---- the hour

module _ (z : Zone) (version : ℕ) (l : Limits) (s : State) (bytes : List ℕ) (fixed : is_fixed bytes ≡ true) where
  -- its tests, of the bytes as they were and with the rate twice
  record TestedTwice (h : Conditions) : Type 0 where
    pub as_it_was : conditions_of StillTaken z bytes ≡ ok h
    pub with_twice : tested_step Retired z version l s (rate_twice bytes) ≡ ok (twice z bytes h as_it_was fixed)

  tested_twice : (h : Conditions) → tested_step StillTaken z version l s bytes ≡ ok h → TestedTwice h
  unfolding tested_step tested_hour_and_limits tested_hour
  tested_twice h e =
      let a = bind_ok (zone_test z) _ h e in
      let b = bind_ok (require (hour_version version) false_entry) _ h a.2 in
      let c = bind_ok (tested_hour StillTaken z s bytes) _ h b.2 in
      let d = bind_ok (state_test z s) _ c.0 c.1 in
      let k = bind_ok (require (limits_valid version l) limit_value) _ h c.2 in
      let was : conditions_of StillTaken z bytes ≡ ok h = d.2 ∙ k.2 in
      record {
        as_it_was = was;
        with_twice =
            bind_is (zone_test z) _ a.0 _ a.1
            (bind_is (require (hour_version version) false_entry) _ b.0 _ b.1
            (bind_is (tested_hour Retired z s (rate_twice bytes)) _ (twice z bytes h was fixed) _
            (bind_is (state_test z s) _ d.0 _ d.1 (taken_twice z bytes h was fixed))
            (bind_is (require (limits_valid version l) limit_value) _ k.0 _ k.1 refl)));
      }

pub same_hour : (c : Coefficients) (z : Zone) → SameHour c z
unfolding hour_step step delivered_by delivered convective_share delivered_fraction heat_balance calc_temperatures couplings matrix_a vector_b
same_hour c z version l s bytes r fixed e =
    let a = bind_ok (tested_step StillTaken z version l s bytes) _ r e in
    let m = tested_twice z version l s bytes fixed a.0 a.1 in
    let d = bind_ok (space_heat_cool_demand c z (slots_of z s) a.0) _ r a.2 in
    let rate = float_at bytes first_rate in
    bind_is (tested_step Retired z version l s (rate_twice bytes)) _ (twice z bytes a.0 m.as_it_was fixed) _ m.with_twice
    (bind_is (space_heat_cool_demand c z (slots_of z s) (twice z bytes a.0 m.as_it_was fixed)) _ d.0 _
    (demand_alike c z (slots_of z s) a.0 rate (args_are z bytes a.0 m.as_it_was fixed) (rate_is_number rate (in_range z bytes a.0 m.as_it_was fixed)) ∙ d.1) d.2)
