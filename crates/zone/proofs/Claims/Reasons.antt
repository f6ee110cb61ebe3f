-- Why each call is refused: for no other reason, and whenever there is one.
use Rattle.std.proofs.Common.{ℕ, zero, suc, ◌+◌, ◌<◌, ◌≡◌, refl, sym, subst, ◌∙◌, true, false, ◌&&◌, List, arith, Float}
use Rattle.solver.specs.Result.{Result, ok, refused, bind, require}
use Rattle.solver.specs.Refusals.{RefusesOnly, accepts, refuses}
use Rattle.solver.proofs.Promise.{bind_refuses, refuses_also}
use Rattle.zone.specs.declared.record.building_element.Coefficients.{Coefficients}
use Rattle.zone.specs.declared.record.zone_record.Zone.{Zone}
use Rattle.zone.specs.declared.format.conditions.Conditions.{Conditions}
use Rattle.zone.specs.declared.format.conditions.FixedRate.{FixedRate}
use Rattle.zone.specs.declared.format.conditions.FixedRate.TheVariants.{Retired}
use Rattle.zone.specs.declared.format.limits.Limits.{Limits}
use Rattle.zone.specs.declared.calls.state.State.{State}
use Rattle.zone.specs.Record.Numbers as Number
use Rattle.zone.specs.Check.Ranges.{gains_range, fraction_range, rate_range}
use Rattle.zone.specs.Check.ZoneTest.{zone_test}
use Rattle.zone.specs.Calls.State.{state_test, zone_and_state_test, slots_of, operative}
use Rattle.zone.specs.Hour.Demand.{space_heat_cool_demand}
use Rattle.zone.specs.Calls.Hour.{
  tested_hour,
  tested,
  hour_version,
  has_limits,
  power_limits_range,
  limits_valid,
  tested_hour_and_limits,
  tested_step,
  step,
  demand,
  hour_step,
  update_temperatures,
}
use Rattle.zone.specs.Calls.StartUp.{start_up_conditions, start_state, close, pass, settle, init_node_temps}
use Rattle.zone.specs.Claims.RefusesWhere.{RefusesWhere}
use Rattle.zone.specs.Claims.FirstFault.{ConditionsReason}
use Rattle.zone.specs.Claims.StartUpClaims.{Unsettled, start, further}
use Rattle.zone.specs.Claims.Reasons.{
  SolveReason,
  ZoneOrStateReason,
  of_zone,
  of_state,
  AfterTests,
  before,
  of_conditions,
  after,
  OperativeReasons,
  DemandReasons,
  HourReason,
  by_limit_value,
  asked,
  met,
  HourStepReason,
  in_hour_zone,
  by_false_entry,
  of_version,
  HourReasons,
  UpdateReason,
  by_conditions_value,
  in_step,
  UpdateReasons,
  StartUpReason,
  in_zone,
  in_pass,
  in_meeting,
  by_not_settled,
  StartUpReasons,
}
use Rattle.zone.proofs.Claims.FirstFault.{zones_first, zones_whenever, states_first, states_whenever, hours_first, hours_whenever}
use Rattle.zone.proofs.Claims.StartUp.{start_up_is_not_settled}
use Rattle.zone.proofs.Laws.Versions.{invalid_limits, step_known, step_passed}
use Rattle.zone.proofs.Laws.Refusals as Laws
use Rattle.zone.proofs.Laws.Whenever.{solve_whenever, demand_whenever}

-- ---- the tests

module _ (z : Zone) (s : State) where
  before_only : RefusesOnly (ZoneOrStateReason z s) (zone_and_state_test z s)
  unfolding zone_and_state_test
  before_only = bind_refuses _ (refuses_also (λ n i p. of_zone p) (zones_first z)) λ _ a. refuses_also (λ n i p. of_state a p) (states_first z s)

  before_whenever : (number index : ℕ) → ZoneOrStateReason z s number index → zone_and_state_test z s ≡ refused number index
  unfolding zone_and_state_test
  before_whenever number index (of_zone p) = rw (zones_whenever z number index p) refl
  before_whenever number index (of_state a p) = rw (a, states_whenever z s number index p) refl

  module _ (fixed : FixedRate) (bytes : List ℕ) where
    tests_only : {P : Conditions → ℕ → ℕ → Type 0} → RefusesOnly (AfterTests fixed z s bytes P) (tested fixed z s bytes)
    unfolding tested tested_hour
    tests_only =
        bind_refuses _ (refuses_also (λ n i p. before (of_zone p)) (zones_first z)) λ _ a.
        bind_refuses _ (refuses_also (λ n i p. before (of_state a p)) (states_first z s)) λ _ b.
        refuses_also (λ n i p. of_conditions a b p) (hours_first fixed z bytes)

    before_refused : (number index : ℕ) → ZoneOrStateReason z s number index → tested fixed z s bytes ≡ refused number index
    unfolding tested tested_hour
    before_refused number index (of_zone p) = rw (zones_whenever z number index p) refl
    before_refused number index (of_state a p) = rw (a, states_whenever z s number index p) refl

    conditions_refused : (number index : ℕ) → zone_test z ≡ ok tt → state_test z s ≡ ok tt → ConditionsReason fixed z bytes number index
        → tested fixed z s bytes ≡ refused number index
    unfolding tested tested_hour
    conditions_refused number index a b p = rw (a, b, hours_whenever fixed z bytes number index p) refl

    module _ {A : Type 0} {P : Conditions → ℕ → ℕ → Type 0} (f : Conditions → Result A) (q : (h : Conditions) → RefusesWhere (P h) (f h)) where
      then_whenever : (number index : ℕ) → AfterTests fixed z s bytes P number index → bind (tested fixed z s bytes) f ≡ refused number index
      then_whenever number index (before p) = rw (before_refused number index p) refl
      then_whenever number index (of_conditions a b p) = rw (conditions_refused number index a b p) refl
      then_whenever number index (after {h = h} e p) = rw e ((q h).whenever number index p)

      tests_then : RefusesWhere (AfterTests fixed z s bytes P) (bind (tested fixed z s bytes) f)
      tests_then = record { only = bind_refuses f tests_only λ h e. refuses_also (λ n i p. after e p) (q h).only; whenever = then_whenever }

operative_only : (z : Zone) (s : State) → RefusesOnly (ZoneOrStateReason z s) (operative z s)
unfolding operative
operative_only z s = bind_refuses _ (before_only z s) λ _ _. accepts _

operative_whenever : (z : Zone) (s : State) (number index : ℕ) → ZoneOrStateReason z s number index → operative z s ≡ refused number index
unfolding operative
operative_whenever z s number index p = rw (before_whenever z s number index p) refl

pub operative_reasons : (z : Zone) → OperativeReasons z
operative_reasons z s = record { only = operative_only z s; whenever = operative_whenever z s }

module _ (c : Coefficients) (z : Zone) where
  -- ---- demand

  pub demand_reasons : DemandReasons c z
  unfolding demand
  demand_reasons fixed s bytes =
      tests_then z s fixed bytes _ λ h.
      record { only = Laws.demand_reasons c z (slots_of z s) h; whenever = demand_whenever c z (slots_of z s) h }

  -- ---- update

  module _ (s : State) (h : Conditions) {gains fraction ach : Float} where
    step_only : RefusesOnly (SolveReason c z (slots_of z s) h gains fraction ach) (step c z s h gains fraction ach)
    unfolding step
    step_only = bind_refuses _ (Laws.solve_reasons c z (slots_of z s) h gains fraction ach) λ t _. accepts _

    step_whenever : (number index : ℕ) → SolveReason c z (slots_of z s) h gains fraction ach number index → step c z s h gains fraction ach ≡ refused number index
    unfolding step
    step_whenever number index p = rw (solve_whenever c z (slots_of z s) h number index p) refl

  -- an update's own tests, then its step
  module _ (s : State) (h : Conditions) (gains fraction ach : Float) where
    abbrev own_tests : Result (Unit {0})
    own_tests = require (gains_range gains && fraction_range fraction && rate_range ach) Number.conditions_value

    update_only : RefusesOnly (UpdateReason c z s gains fraction ach h) (bind own_tests λ _. step c z s h gains fraction ach)
    update_only =
        Laws.because (gains_range gains && fraction_range fraction && rate_range ach) Number.conditions_value 0 _ by_conditions_value λ k.
        refuses_also (λ n i p. in_step k p) (step_only s h)

    update_whenever : (number index : ℕ) → UpdateReason c z s gains fraction ach h number index
        → bind own_tests (λ _. step c z s h gains fraction ach) ≡ refused number index
    update_whenever number index (by_conditions_value k) = rw k refl
    update_whenever number index (in_step k p) = rw k (step_whenever s h number index p)

  pub update_reasons : UpdateReasons c z
  unfolding update_temperatures
  update_reasons s bytes gains fraction ach =
      tests_then z s Retired bytes _ λ h. record { only = update_only s h gains fraction ach; whenever = update_whenever s h gains fraction ach }

  -- ---- hour step

  module _ (fixed : FixedRate) (version : ℕ) (l : Limits) (s : State) (bytes : List ℕ) where
    -- of a zone and a version that pass they are the demand's
    module _ (a : zone_test z ≡ ok tt) where
      hour_tested_lem : tested_hour fixed z s bytes ≡ tested fixed z s bytes
      unfolding tested
      hour_tested_lem = rw a refl

      module _ (k : hour_version version ≡ true) where
        -- then the limits'
        limits_tests : RefusesOnly (HourStepReason c z fixed version l s bytes) (tested_hour_and_limits fixed z version l s bytes)
        unfolding tested_hour_and_limits
        limits_tests =
            bind_refuses _ (subst (RefusesOnly (HourStepReason c z fixed version l s bytes)) (sym hour_tested_lem) (refuses_also (λ n i p. of_version a k p) (tests_only z s fixed bytes))) λ h e.
            Laws.because (limits_valid version l) Number.limit_value 0 _ (λ q. of_version a k (after {h = h} (sym hour_tested_lem ∙ e) (by_limit_value (invalid_limits version l q).0 (invalid_limits version l q).1))) λ _.
            accepts h

        hour_tests_refused : (number index : ℕ) → tested fixed z s bytes ≡ refused number index → hour_step fixed c z version l s bytes ≡ refused number index
        unfolding hour_step tested_step tested_hour_and_limits
        hour_tests_refused number index e = let f : tested_hour fixed z s bytes ≡ refused number index = hour_tested_lem ∙ e in rw (a, k, f) refl

        limits_refused : (h : Conditions) → tested fixed z s bytes ≡ ok h → has_limits version ≡ true → power_limits_range l ≡ false
            → hour_step fixed c z version l s bytes ≡ refused Number.limit_value 0
        unfolding hour_step tested_step tested_hour_and_limits
        limits_refused h e p q = let f : tested_hour fixed z s bytes ≡ ok h = hour_tested_lem ∙ e in rw (a, k, f, p, q) refl

        module _ (h : Conditions) (e : tested fixed z s bytes ≡ ok h) (p : limits_valid version l ≡ true) where
          step_tested : tested_step fixed z version l s bytes ≡ ok h
          step_tested = step_known fixed z version l s bytes k p ∙ e

          hour_asked : (number index : ℕ) → space_heat_cool_demand c z (slots_of z s) h ≡ refused number index → hour_step fixed c z version l s bytes ≡ refused number index
          unfolding hour_step
          hour_asked number index q = rw (step_tested, q) refl

        hour_reason_refused : (h : Conditions) (number index : ℕ) → tested fixed z s bytes ≡ ok h → HourReason c z version l s h number index
            → hour_step fixed c z version l s bytes ≡ refused number index
        unfolding hour_step
        hour_reason_refused h number index e (by_limit_value p q) = limits_refused h e p q
        hour_reason_refused h number index e (asked p q) = hour_asked h e p number index (demand_whenever c z (slots_of z s) h number index q)
        hour_reason_refused h number index e (met p d q) = rw (step_tested h e p, d, step_whenever s h number index q) refl

        tests_reason_refused : (number index : ℕ) → AfterTests fixed z s bytes (HourReason c z version l s) number index → hour_step fixed c z version l s bytes ≡ refused number index
        tests_reason_refused number index (before p) = hour_tests_refused number index (before_refused z s fixed bytes number index p)
        tests_reason_refused number index (of_conditions b d p) = hour_tests_refused number index (conditions_refused z s fixed bytes number index b d p)
        tests_reason_refused number index (after {h = h} e p) = hour_reason_refused h number index e p

    step_tests : RefusesOnly (HourStepReason c z fixed version l s bytes) (tested_step fixed z version l s bytes)
    unfolding tested_step
    step_tests =
        bind_refuses _ (refuses_also (λ n i p. in_hour_zone p) (zones_first z)) λ _ a.
        Laws.because (hour_version version) Number.false_entry 0 _ (by_false_entry a) λ k.
        limits_tests a k

    hour_only : RefusesOnly (HourStepReason c z fixed version l s bytes) (hour_step fixed c z version l s bytes)
    unfolding hour_step
    hour_only =
        bind_refuses _ step_tests λ h e.
        let p = step_passed fixed z version l s bytes h e in
        refuses_also (λ n i q. of_version p.zone p.known (after p.tests q)) (
        bind_refuses _ (refuses_also (λ n i q. asked p.limits q) (Laws.demand_reasons c z (slots_of z s) h)) λ d e.
        bind_refuses _ (refuses_also (λ n i q. met p.limits e q) (step_only s h)) λ r _.
        accepts _)

    hour_whenever : (number index : ℕ) → HourStepReason c z fixed version l s bytes number index → hour_step fixed c z version l s bytes ≡ refused number index
    unfolding hour_step tested_step
    hour_whenever number index (in_hour_zone p) = rw (zones_whenever z number index p) refl
    hour_whenever number index (by_false_entry a k) = rw (a, k) refl
    hour_whenever number index (of_version a k p) = tests_reason_refused a k number index p

  pub hour_reasons : HourReasons c z
  hour_reasons fixed version l s bytes = record { only = hour_only fixed version l s bytes; whenever = hour_whenever fixed version l s bytes }

  -- ---- start-up

  -- one pass more
  one_more : {n : ℕ} {t u u' : List Float} → Unsettled c z n t u → pass c z u ≡ ok u' → close z u u' ≡ false → Unsettled c z (suc n) t u'
  one_more start p q = further p q start
  one_more (further p' q' rest) p q = further p' q' (one_more rest p q)

  settle_reasons : (left n : ℕ) (t : List Float) → zone_test z ≡ ok tt → n + left ≡ z.start_up_limit → Unsettled c z n (slots_of z (start_state z)) t
      → RefusesOnly (StartUpReason c z) (settle c z left t)
  unfolding settle pass
  settle_reasons zero n t a e u = let m : n ≡ z.start_up_limit = omega arith in refuses (by_not_settled a (rw m at u))
  settle_reasons (suc left) n t a e u =
      let less : n < z.start_up_limit = omega arith in
      bind_refuses _
      (bind_refuses _ (refuses_also (λ m i p. in_pass a u less p) (Laws.demand_reasons c z t (start_up_conditions z))) λ d k.
      refuses_also (λ m i p. in_meeting a u less k p) (Laws.solve_reasons c z t (start_up_conditions z) _ _ _)) λ t' p.
      Laws.choice_refuses (close z t t') (λ _. accepts t) λ q. settle_reasons left (suc n) t' a (omega arith) (one_more u p q)

  -- a pass is refused after so many that did not settle
  settle_refused : {n limit number index : ℕ} {t u : List Float} → Unsettled c z n t u → n < limit → pass c z u ≡ refused number index → settle c z limit t ≡ refused number index
  unfolding settle
  settle_refused {limit = zero} w h e = absurd (omega arith)
  settle_refused {limit = suc m} start h e = rw e refl
  settle_refused {limit = suc m} (further p q rest) h e = rw (p, q) (settle_refused {limit = m} rest (omega arith) e)

  pass_refused : {n number index : ℕ} {t : List Float} → zone_test z ≡ ok tt → Unsettled c z n (slots_of z (start_state z)) t → n < z.start_up_limit
      → pass c z t ≡ refused number index → init_node_temps c z ≡ refused number index
  unfolding init_node_temps
  pass_refused a u less e = rw (a, settle_refused u less e) refl

  start_up_only : RefusesOnly (StartUpReason c z) (init_node_temps c z)
  unfolding init_node_temps
  start_up_only =
      bind_refuses _ (refuses_also (λ n i p. in_zone p) (zones_first z)) λ _ a.
      bind_refuses _ (settle_reasons z.start_up_limit 0 (slots_of z (start_state z)) a (omega arith) start) λ t _.
      accepts _

  start_up_whenever : (number index : ℕ) → StartUpReason c z number index → init_node_temps c z ≡ refused number index
  unfolding init_node_temps pass
  start_up_whenever number index (in_zone p) = rw (zones_whenever z number index p) refl
  start_up_whenever number index (in_pass {t = t} a u less p) = pass_refused a u less (rw (demand_whenever c z t (start_up_conditions z) number index p) refl)
  start_up_whenever number index (in_meeting {t = t} a u less d p) = pass_refused a u less (rw (d, solve_whenever c z t (start_up_conditions z) number index p) refl)
  start_up_whenever number index (by_not_settled {t = t} a u) = start_up_is_not_settled c z t a u

  pub start_up_reasons : StartUpReasons c z
  start_up_reasons = record { only = start_up_only; whenever = start_up_whenever }
