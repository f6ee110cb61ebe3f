-- The index of a refusal is that of an element of the zone, or 0.
use Rattle.std.proofs.Common.{ℕ, zero, suc, ◌+◌, ◌≤◌, Bool, ◌&&◌, List, [], ◌∷◌, map, arith, leb, eqb, length, take, length-take, Float}
use Rattle.solver.specs.Refusals.{RefusesOnly, SolveRefusal, accepts, refuses, solve_divisor, solve_temperature}
use Rattle.solver.proofs.Promise.{bind_refuses, cond_refuses, require_refuses, test_refuses}
use Rattle.zone.specs.declared.record.building_element.Coefficients.{Coefficients}
use Rattle.zone.specs.declared.record.building_element.Element.{Element}
use Rattle.zone.specs.declared.record.zone_record.Zone.{Zone}
use Rattle.zone.specs.declared.format.conditions.FixedRate.{FixedRate}
use Rattle.zone.specs.declared.format.conditions.FixedRate.TheVariants.{Retired}
use Rattle.zone.specs.declared.format.limits.Limits.{Limits}
use Rattle.zone.specs.declared.calls.state.State.{State}
use Rattle.zone.specs.Record.BuildingElement.{node_count}
use Rattle.zone.specs.Check.Ranges.{gains_range, fraction_range, rate_range}
use Rattle.zone.specs.Check.ZoneTest.{element_hour_in_range, element_in_range, all_required, front_in_range, values_test, count_valid, element_treatments_valid, counts_test, zone_test}
use Rattle.zone.specs.Format.Layout.{first_element_hour, conditions_length}
use Rattle.zone.specs.Format.Conditions.{conditions_at, rate_code_valid, open_bits_valid, hour_and_gains_in_range, setpoints_in_range, ach_args_in_range, conditions_test, conditions_of}
use Rattle.zone.specs.Calls.State.{all_within_state_bound, state_test, zone_and_state_test, slots_of, operative}
use Rattle.zone.specs.Calls.Hour.{tested_hour, tested, hour_version, limits_valid, tested_hour_and_limits, tested_step, demand, hour_step, update_temperatures}
use Rattle.zone.specs.Calls.StartUp.{start_state, close, settle, init_node_temps}
use Rattle.zone.specs.Claims.Refusals.{OfZone, IndicesOfZone}
use Rattle.zone.proofs.Laws.Refusals.{demand_refuses, step_refuses, pass_refuses}
use Rattle.zone.specs.Record.Numbers as Number

-- a test of each of a list, of which the first has index i
required_within : {A : Type 0} (z : Zone) (test : A → Bool) (number : ℕ) (l : List A) (i : ℕ) → length l + i ≤ z.count + 1 → RefusesOnly (OfZone z) (all_required test number l i)
unfolding all_required
required_within z test number [] i h = accepts tt
required_within z test number (a ∷ as') i h =
    test_refuses (test a) number i _ (omega arith) λ _.
    required_within z test number as' (i + 1) (omega arith)

elements_within : {A : Type 0} (z : Zone) (test : A → Bool) (number : ℕ) (l : List A) → RefusesOnly (OfZone z) (all_required test number (take z.count l) 1)
elements_within z test number l = required_within z test number (take z.count l) 1 (simp length-take (omega arith))

module _ (z : Zone) where
  none : 0 ≤ z.count
  none = omega arith

  solve_none : (n i : ℕ) → SolveRefusal n i → OfZone z n i
  solve_none n i solve_divisor = none
  solve_none n i solve_temperature = none

  zone_within : RefusesOnly (OfZone z) (zone_test z)
  unfolding zone_test counts_test values_test
  zone_within =
      bind_refuses _
      (test_refuses (count_valid z.count) Number.structure 0 _ none λ _.
      elements_within z element_treatments_valid Number.structure z.building_elements) λ _ _.
      test_refuses (front_in_range z) Number.zone_value 0 _ none λ _.
      elements_within z element_in_range Number.zone_value z.building_elements

  conditions_within : (fixed : FixedRate) (bs : List ℕ) → RefusesOnly (OfZone z) (conditions_of fixed z bs)
  unfolding conditions_of conditions_test
  conditions_within fixed bs =
      let n = z.count in
      let h = conditions_at bs n in
      test_refuses (leb n 24 && eqb (length bs) (conditions_length n)) Number.conditions_size 0 _ none λ _.
      test_refuses (rate_code_valid fixed bs && open_bits_valid bs (take n (map (λ (e : Element). e.treatments) z.building_elements)) first_element_hour) Number.conditions_code 0 _ none λ _.
      bind_refuses _
      (test_refuses (hour_and_gains_in_range h && setpoints_in_range h && ach_args_in_range h.ach_args) Number.conditions_value 0 _ none λ _.
      elements_within z element_hour_in_range Number.conditions_value h.elements) λ _ _.
      accepts h

  module _ (s : State) where
    state_within : RefusesOnly (OfZone z) (state_test z s)
    unfolding state_test
    state_within = require_refuses (eqb s.nodes (node_count z) && all_within_state_bound (take s.nodes s.temps)) Number.state_invalid 0 none

    operative_within : RefusesOnly (OfZone z) (operative z s)
    unfolding operative zone_and_state_test
    operative_within =
        bind_refuses _ (bind_refuses _ zone_within λ _ _. state_within) λ _ _.
        accepts _

    tested_hour_within : (fixed : FixedRate) (bytes : List ℕ) → RefusesOnly (OfZone z) (tested_hour fixed z s bytes)
    unfolding tested_hour
    tested_hour_within fixed bytes =
        bind_refuses _ state_within λ _ _.
        conditions_within fixed bytes

    tested_within : (fixed : FixedRate) (bytes : List ℕ) → RefusesOnly (OfZone z) (tested fixed z s bytes)
    unfolding tested
    tested_within fixed bytes =
        bind_refuses _ zone_within λ _ _.
        tested_hour_within fixed bytes

    tested_step_within : (fixed : FixedRate) (version : ℕ) (l : Limits) (bytes : List ℕ) → RefusesOnly (OfZone z) (tested_step fixed z version l s bytes)
    unfolding tested_step tested_hour_and_limits
    tested_step_within fixed version l bytes =
        bind_refuses _ zone_within λ _ _.
        test_refuses (hour_version version) Number.false_entry 0 _ none λ _.
        bind_refuses _ (tested_hour_within fixed bytes) λ h _.
        test_refuses (limits_valid version l) Number.limit_value 0 _ none λ _.
        accepts h

    module _ (fixed : FixedRate) (c : Coefficients) (bytes : List ℕ) where
      demand_within : RefusesOnly (OfZone z) (demand fixed c z s bytes)
      unfolding demand
      demand_within =
          bind_refuses _ (tested_within fixed bytes) λ h _.
          demand_refuses solve_none c z (slots_of z s) h none (λ _. none) none

      hour_within : (version : ℕ) (l : Limits) → RefusesOnly (OfZone z) (hour_step fixed c z version l s bytes)
      unfolding hour_step
      hour_within version l =
          bind_refuses _ (tested_step_within fixed version l bytes) λ h _.
          bind_refuses _ (demand_refuses solve_none c z (slots_of z s) h none (λ _. none) none) λ d _.
          bind_refuses _ (step_refuses solve_none c z s h _ _ _) λ r _.
          accepts _

      update_within : (gains fraction ach : Float) → RefusesOnly (OfZone z) (update_temperatures c z s bytes gains fraction ach)
      unfolding update_temperatures
      update_within gains fraction ach =
          bind_refuses _ (tested_within Retired bytes) λ h _.
          test_refuses (gains_range gains && fraction_range fraction && rate_range ach) Number.conditions_value 0 _ none λ _.
          step_refuses solve_none c z s h gains fraction ach

  settle_within : (c : Coefficients) (limit : ℕ) (t : List Float) → RefusesOnly (OfZone z) (settle c z limit t)
  unfolding settle
  settle_within c zero t = refuses none
  settle_within c (suc n) t =
      bind_refuses _ (pass_refuses none solve_none none c z t) λ t' _.
      cond_refuses (close z t t') (accepts t) (settle_within c n t')

  start_up_within : (c : Coefficients) → RefusesOnly (OfZone z) (init_node_temps c z)
  unfolding init_node_temps
  start_up_within c =
      bind_refuses _ zone_within λ _ _.
      bind_refuses _ (settle_within c z.start_up_limit (slots_of z (start_state z))) λ t _.
      accepts _

pub indices_of_zone : (c : Coefficients) (z : Zone) → IndicesOfZone c z
indices_of_zone c z =
    record {
      operatives = operative_within z;
      demands = λ fixed s bytes. demand_within z s fixed c bytes;
      hour_steps = λ fixed version l s bytes. hour_within z s fixed c bytes version l;
      updates = λ s bytes gains fraction ach. update_within z s Retired c bytes gains fraction ach;
      start_up = start_up_within z c;
    }
