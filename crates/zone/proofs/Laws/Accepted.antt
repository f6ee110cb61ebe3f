-- What an accepted hour step tells of its arguments and of the state after it.
use Rattle.std.proofs.Common.{ℕ, ◌≤◌, ◌≡◌, sym, ap, ◌∙◌, List, length, Float}
use Rattle.solver.specs.F64.{◌+ᶠ◌}
use Rattle.solver.specs.Result.{ok}
use Rattle.solver.proofs.Promise.{bind_is, bind_ok, ok_inj}
use Rattle.zone.specs.Format.Layout.{conditions_length}
use Rattle.zone.specs.declared.record.building_element.Coefficients.{Coefficients}
use Rattle.zone.specs.declared.format.conditions.Conditions.{Conditions}
use Rattle.zone.specs.declared.format.conditions.FixedRate.{FixedRate}
use Rattle.zone.specs.declared.format.limits.Limits.{Limits}
use Rattle.zone.specs.declared.record.zone_record.Zone.{Zone}
use Rattle.zone.specs.Check.ZoneTest.{zone_test}
use Rattle.zone.proofs.Laws.Versions.{step_passed}
use Rattle.zone.proofs.Claims.Head.{zone_count}
use Rattle.zone.proofs.Claims.Conditions as Conditions
use Rattle.zone.specs.Physics.System.{zone_two_nodes}
use Rattle.zone.specs.Physics.CalcTemperatures.{calc_temperatures}
use Rattle.zone.proofs.Laws.Nodes.{to_nodes_length}
use Rattle.zone.specs.declared.physics.balance.HeatBalance.{HeatBalance}
use Rattle.zone.specs.declared.calls.state.State.{State}
use Rattle.zone.specs.Calls.State.{state_test, zone_and_state_test, slots_of, state_of}
use Rattle.zone.specs.Hour.Demand.{delta_t, gains_heat_cool, space_heat_cool_demand}
use Rattle.zone.specs.Calls.Hour.{tested_hour, tested, tested_step, step, delivered_by, convective_share, HourResult, hour_step}

-- the temperatures after an accepted step, and its state
pub record StepMade (c : Coefficients) (z : Zone) (t : List Float) (h : Conditions) (after : State) : Type 0 where
  pub gains : Float
  pub fraction : Float
  pub ach : Float
  pub temps : List Float
  pub solved : calc_temperatures c z t h (delta_t h) gains fraction ach ≡ ok temps
  pub state : state_of z temps ≡ after

-- an accepted hour step: its conditions, its demand and the step that meets it
pub record HourMade (fixed : FixedRate) (c : Coefficients) (z : Zone) (s : State) (bytes : List ℕ) (r : HourResult) : Type 0 where
  pub conditions : Conditions
  pub tests : tested fixed z s bytes ≡ ok conditions
  pub answered : space_heat_cool_demand c z (slots_of z s) conditions ≡ ok r.demand
  pub gains : Float
  pub fraction : Float
  pub stepped : step c z s conditions gains fraction r.demand.ach_cooling ≡ ok (r.state, r.balance)

module _ (c : Coefficients) (z : Zone) (s : State) where
  pub step_made : (h : Conditions) (gains fraction ach : Float) (r : State × HeatBalance) → step c z s h gains fraction ach ≡ ok r
      → StepMade c z (slots_of z s) h r.0
  unfolding step
  step_made h gains fraction ach r e =
      let t = bind_ok (calc_temperatures c z (slots_of z s) h (delta_t h) gains fraction ach) _ r e in
      record { gains = gains; fraction = fraction; ach = ach; temps = t.0; solved = t.1; state = ap (λ x. x.0) (ok_inj t.2) }

  module _ (fixed : FixedRate) (version : ℕ) (l : Limits) (bytes : List ℕ) (r : HourResult) (e : hour_step fixed c z version l s bytes ≡ ok r) where
    pub hour_made : HourMade fixed c z s bytes r
    unfolding hour_step
    hour_made =
        let h = bind_ok (tested_step fixed z version l s bytes) _ r e in
        let d = bind_ok (space_heat_cool_demand c z (slots_of z s) h.0) _ r h.2 in
        let w = delivered_by version l h.0 d.0 in
        let g = gains_heat_cool h.0 +ᶠ w in
        let m = bind_ok (step c z s h.0 g (convective_share version h.0 w g) d.0.ach_cooling) _ r d.2 in
        let same = ok_inj m.2 in
        record {
          conditions = h.0;
          tests = (step_passed fixed z version l s bytes h.0 h.1).tests;
          answered = d.1 ∙ ap (λ x. ok x.demand) same;
          gains = g;
          fraction = convective_share version h.0 w g;
          stepped =
              ap (λ (x : HourResult). step c z s h.0 g (convective_share version h.0 w g) x.demand.ach_cooling) (sym same)
              ∙ m.1
              ∙ ap (λ (x : HourResult). ok (x.state, x.balance)) same;
        }

    pub hour_met : StepMade c z (slots_of z s) hour_made.conditions r.state
    hour_met =
        let m = hour_made in
        step_made m.conditions m.gains m.fraction r.demand.ach_cooling (r.state, r.balance) m.stepped

    -- zone and state were tested: refusals 4 to 6
    pub hour_tested : zone_and_state_test z s ≡ ok tt
    unfolding tested tested_hour zone_and_state_test
    hour_tested =
        let t = bind_ok (zone_test z) _ hour_made.conditions hour_made.tests in
        let u = bind_ok (state_test z s) _ hour_made.conditions t.2 in
        bind_is (zone_test z) _ t.0 _ t.1 u.1

    -- the conditions had their size: refusal 7
    pub conditions_length_lem : length bytes ≡ conditions_length z.count
    unfolding tested tested_hour
    conditions_length_lem =
        let t = bind_ok (zone_test z) _ hour_made.conditions hour_made.tests in
        let u = bind_ok (state_test z s) _ hour_made.conditions t.2 in
        Conditions.conditions_length_lem fixed z bytes hour_made.conditions u.2

    -- the zone was tested: refusal 4
    pub count_few : z.count ≤ 24
    unfolding tested
    count_few =
        let t = bind_ok (zone_test z) _ hour_made.conditions hour_made.tests in
        (zone_count z t.1).1

    -- the state after the hour is a whole array
    pub temps_length : length r.state.temps ≡ 121
    unfolding state_of
    temps_length =
        let t = hour_met in
        sym (ap (λ x. length x.temps) t.state) ∙ to_nodes_length (zone_two_nodes z) z.count t.temps
