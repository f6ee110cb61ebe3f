-- A state that is handed back passes the next call's tests.
use Rattle.std.proofs.Common.{◌≡◌, subst, ◌&&◌, ℕ, List, Float}
use Rattle.solver.specs.F64.{decimal, zero64}
use Rattle.solver.specs.Result.{ok, require, require_at}
use Rattle.solver.proofs.Promise.{bind_ok, require_ok, and_true}
use Rattle.zone.specs.declared.record.building_element.Coefficients.{Coefficients}
use Rattle.zone.specs.declared.record.zone_record.Zone.{Zone}
use Rattle.zone.specs.declared.calls.state.State.{State}
use Rattle.zone.specs.declared.format.conditions.Conditions.{Conditions}
use Rattle.zone.specs.declared.format.conditions.FixedRate.{FixedRate}
use Rattle.zone.specs.declared.format.conditions.FixedRate.TheVariants.{Retired}
use Rattle.zone.specs.Check.Ranges.{area_range, coefficient_range, limit_range, gains_range, fraction_range, rate_range, temperature_range, heating_setpoint_range, setpoint_range}
use Rattle.zone.specs.Check.ZoneTest.{front_in_range, values_test, counts_test, zone_test}
use Rattle.zone.specs.Hour.Demand.{delta_t, space_heat_cool_demand}
use Rattle.zone.specs.Calls.State.{state_test, zone_and_state_test, slots_of}
use Rattle.zone.specs.Calls.Hour.{tested, delivered, update_temperatures}
use Rattle.zone.specs.Record.BuildingElement.{node_count}
use Rattle.zone.specs.Physics.System.{zone_two_nodes}
use Rattle.zone.specs.Calls.StartUp.{start_up_conditions, temp_start, start_state, pass, init_node_temps}
use Rattle.zone.specs.Claims.StartUpClaims.{Unsettled, start, further}
use Rattle.zone.specs.Claims.StateClaims.{UpdateStateTested, HourStateTested, StartUpStateTested}
use Rattle.zone.proofs.Claims.Head.{zone_count}
use Rattle.zone.proofs.Laws.Accepted.{StepMade, step_made, hour_made, hour_met}
use Rattle.zone.proofs.Laws.Bound.{Within, step_within, state_tested, start_within}
use Rattle.zone.proofs.Laws.Magnitude.{mean_within}
use Rattle.zone.proofs.Claims.StartUp.{start_up_settled}
use Rattle.zone.specs.Record.Numbers as Number

-- both tests, by the two
both_tested : (z : Zone) (s : State) (u : Unit {0}) → zone_test z ≡ ok u → state_test z s ≡ ok tt → zone_and_state_test z s ≡ ok tt
unfolding zone_and_state_test
both_tested z s u p q = rw p q

module _ (c : Coefficients) (z : Zone) where
  -- after a step under conditions that passed the tests
  step_tested : (fixed : FixedRate) (s : State) (bytes : List ℕ) (h : Conditions) (after : State) → tested fixed z s bytes ≡ ok h → StepMade c z (slots_of z s) h after → zone_and_state_test z after ≡ ok tt
  unfolding tested
  step_tested fixed s bytes h after e m =
      let u = bind_ok (zone_test z) _ h e in
      let kept = step_within c z (slots_of z s) h (delta_t h) m.gains m.fraction m.ach m.temps m.solved in
      both_tested z after u.0 u.1 (subst (λ (x : State). state_test z x ≡ ok tt) m.state (state_tested z m.temps kept (zone_count z u.1).1))

  pub update_state_tested : UpdateStateTested c z
  unfolding update_temperatures
  update_state_tested s bytes gains fraction ach r e =
      let h = bind_ok (tested Retired z s bytes) _ r e in
      let w = bind_ok (require (gains_range gains && fraction_range fraction && rate_range ach) Number.conditions_value) _ r h.2 in
      step_tested Retired s bytes h.0 r.0 h.1 (step_made c z s h.0 gains fraction ach r w.2)

  pub hour_state_tested : HourStateTested c z
  hour_state_tested fixed version l s bytes r e =
      let m = hour_made c z s fixed version l bytes r e in
      step_tested fixed s bytes m.conditions r.state m.tests (hour_met c z s fixed version l bytes r e)

  -- start-up: the temperatures that settle are those before the first pass, or what a pass gave
  passed_within : {n : ℕ} {t u : List Float} → Within z.count (zone_two_nodes z) t → Unsettled c z n t u → Within z.count (zone_two_nodes z) u
  unfolding pass
  passed_within kept start = kept
  passed_within {t = t} kept (further {t' = t'} p q rest) =
      let h = start_up_conditions z in
      let d = bind_ok (space_heat_cool_demand c z t h) _ t' p in
      passed_within (step_within c z t h (delta_t h) (delivered h d.0) (decimal 4 1) zero64 t' d.2) rest

  first_within : (u : Unit {0}) → zone_test z ≡ ok u → Within z.count (zone_two_nodes z) (slots_of z (start_state z))
  unfolding zone_test values_test front_in_range
  first_within u e =
      let v = bind_ok (counts_test z) _ u e in
      let f = bind_ok (require_at (front_in_range z) Number.zone_value 0) _ u v.2 in
      let all = require_ok (front_in_range z) Number.zone_value 0 f.0 f.1 in
      let sizes = limit_range z.start_up_limit && area_range z.useful_area && area_range z.volume && coefficient_range z.tb_heat_trans_coeff in
      let ext = temperature_range z.temp_ext_air_init in
      let set = heating_setpoint_range z.temp_setpnt_init in
      let three = and_true (sizes && ext && set) (setpoint_range z.temp_setpnt_cool_vent_init) all in
      let two = and_true (sizes && ext) set three.0 in
      start_within z (temp_start z) (node_count z) (mean_within z.temp_ext_air_init z.temp_setpnt_init (and_true sizes ext two.0).1 two.1)

  zone_accepted : (s : State) → init_node_temps c z ≡ ok s → zone_test z ≡ ok tt
  unfolding init_node_temps
  zone_accepted s e = (bind_ok (zone_test z) _ s e).1

  pub start_up_state_tested : StartUpStateTested c z
  start_up_state_tested s e =
      let u = zone_accepted s e in
      let a = start_up_settled c z s e in
      both_tested z s tt u
      (subst (λ (x : State). state_test z x ≡ ok tt) a.2
      (state_tested z a.0 (passed_within (first_within tt u) a.1.unsettled) (zone_count z u).1))
