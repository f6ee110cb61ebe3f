-- Refusals: which numbers and indices they have; and a refused call hands back the state that it was given.
use Rattle.std.proofs.Common.{◌≡◌, refl, ℕ, zero, suc, ◌<◌, true, ◌&&◌, List, [], arith, Float}
use Rattle.solver.specs.Result.{Result, ok, refused}
use Rattle.solver.specs.Refusals.{SolveRefusal, RefusesOnly, accepts, refuses, solve_divisor, solve_temperature}
use Rattle.solver.proofs.Promise.{ok_not_refused, bind_refuses, cond_refuses, test_refuses, refuses_also}
use Rattle.zone.specs.declared.record.building_element.Coefficients.{Coefficients}
use Rattle.zone.specs.declared.record.zone_record.Zone.{Zone}
use Rattle.zone.specs.declared.format.conditions.Conditions.{Conditions}
use Rattle.zone.specs.declared.format.conditions.FixedRate.{FixedRate}
use Rattle.zone.specs.declared.format.conditions.FixedRate.TheVariants.{Retired}
use Rattle.zone.specs.declared.format.limits.Limits.{Limits}
use Rattle.zone.specs.Check.Ranges.{gains_range, fraction_range, rate_range}
use Rattle.zone.proofs.Claims.HeadRefusals.{zone_below, conditions_below, zone_refusals}
use Rattle.zone.specs.declared.physics.balance.HeatBalance.{HeatBalance}
use Rattle.zone.specs.declared.calls.state.State.{State}
use Rattle.zone.specs.declared.calls.state.Demand.{Demand}
use Rattle.zone.specs.Calls.State.{slots_of, operative}
use Rattle.zone.specs.Hour.Demand.{space_heat_cool_demand}
use Rattle.zone.specs.Calls.Hour.{HourResult, hour_version, tested, tested_step, update_temperatures, demand, hour_step}
use Rattle.zone.specs.Calls.StartUp.{start_state, close, settle, init_node_temps}
use Rattle.zone.specs.Calls.Answers.{demand_reply, update_reply, hour_step_reply}
use Rattle.zone.specs.Claims.Refusals.{
  OperativeRefusal,
  operative_zone,
  operative_state_invalid,
  DemandRefusal,
  demand_zone,
  demand_state_invalid,
  demand_conditions,
  demand_cooling_below_heating,
  demand_ventilation_below_heating,
  demand_solve,
  demand_no_effect,
  KnownHourRefusal,
  hour_demand,
  hour_limit_value,
  HourRefusal,
  hour_known,
  hour_false_entry,
  UpdateRefusal,
  update_zone,
  update_state_invalid,
  update_conditions,
  update_conditions_value,
  update_solve,
  StartUpRefusal,
  start_up_zone,
  start_up_ventilation_below_heating,
  start_up_solve,
  start_up_no_effect,
  start_up_not_settled,
  CallRefusals,
}
use Rattle.zone.specs.Claims.StateClaims.{StateKept}
use Rattle.zone.proofs.Laws.Refusals.{before_refuses, tested_refuses, tested_step_refuses, step_refuses, demand_refuses, pass_refuses}
use Rattle.zone.specs.Record.Numbers as Number

-- the demand's numbers
pub solve_below : (number index : ℕ) → SolveRefusal number index → number < 14
solve_below number index solve_divisor = omega arith
solve_below number index solve_temperature = omega arith

pub demand_below : (number index : ℕ) → DemandRefusal number index → number < 15
demand_below number index (demand_zone p) = omega (arith, zone_below number index p)
demand_below number index demand_state_invalid = omega arith
demand_below number index (demand_conditions p) = omega (arith, conditions_below number index p)
demand_below number index demand_cooling_below_heating = omega arith
demand_below number index demand_ventilation_below_heating = omega arith
demand_below number index (demand_solve p) = omega (arith, solve_below number index p)
demand_below number index demand_no_effect = omega arith

module _ (c : Coefficients) (z : Zone) where
  module _ (fixed : FixedRate) (s : State) (bytes : List ℕ) where
    demand_tested : RefusesOnly DemandRefusal (tested fixed z s bytes)
    demand_tested = tested_refuses fixed (λ n i p. demand_zone p) demand_state_invalid (λ n i p. demand_conditions p) z s bytes

    demand_asked : (h : Conditions) → RefusesOnly DemandRefusal (space_heat_cool_demand c z (slots_of z s) h)
    demand_asked h = demand_refuses (λ n i p. demand_solve p) c z (slots_of z s) h demand_no_effect (λ _. demand_cooling_below_heating) demand_ventilation_below_heating

    pub demand_refusals : RefusesOnly DemandRefusal (demand fixed c z s bytes)
    unfolding demand
    demand_refusals =
        bind_refuses _ demand_tested λ h _.
        demand_asked h

    -- after its tests an hour step has the demand's
    step_after_tests : {P : ℕ → ℕ → Type 0} → ((n i : ℕ) → DemandRefusal n i → P n i) → (version : ℕ) (l : Limits) → RefusesOnly P (tested_step fixed z version l s bytes)
        → RefusesOnly P (hour_step fixed c z version l s bytes)
    unfolding hour_step
    step_after_tests also version l tests =
        bind_refuses _ tests λ h _.
        bind_refuses _ (refuses_also also (demand_asked h)) λ d _.
        bind_refuses _ (step_refuses (λ n i p. also n i (demand_solve p)) c z s h _ _ _) λ r _.
        accepts _

    pub hour_step_refusals : (version : ℕ) (l : Limits) → RefusesOnly HourRefusal (hour_step fixed c z version l s bytes)
    hour_step_refusals version l =
        step_after_tests (λ n i p. hour_known (hour_demand p)) version l
        (tested_step_refuses fixed z version l s bytes (λ n i p. hour_known (hour_demand (demand_zone p))) (λ _. hour_false_entry) (hour_known (hour_demand demand_state_invalid)) (λ n i p. hour_known (hour_demand (demand_conditions p))) (hour_known hour_limit_value))

    -- of a version that hours have it has no 18
    pub known_step_refusals : (version : ℕ) (l : Limits) → hour_version version ≡ true → RefusesOnly KnownHourRefusal (hour_step fixed c z version l s bytes)
    known_step_refusals version l k =
        step_after_tests (λ n i p. hour_demand p) version l
        (tested_step_refuses fixed z version l s bytes (λ n i p. hour_demand (demand_zone p)) (λ f. absurd (let x : ◌≡◌ {A = ℕ} 0 1 = cc in omega arith)) (hour_demand demand_state_invalid) (λ n i p. hour_demand (demand_conditions p)) hour_limit_value)

  module _ (s : State) (bytes : List ℕ) where
    pub operative_refusals : RefusesOnly OperativeRefusal (operative z s)
    unfolding operative
    operative_refusals =
        bind_refuses _ (before_refuses (λ n i p. operative_zone p) operative_state_invalid z s) λ _ _.
        accepts _

    pub update_refusals : (gains fraction ach : Float) → RefusesOnly UpdateRefusal (update_temperatures c z s bytes gains fraction ach)
    unfolding update_temperatures
    update_refusals gains fraction ach =
        bind_refuses _ (tested_refuses Retired (λ n i p. update_zone p) update_state_invalid (λ n i p. update_conditions p) z s bytes) λ h _.
        test_refuses (gains_range gains && fraction_range fraction && rate_range ach) Number.conditions_value 0 _ update_conditions_value λ _.
        step_refuses (λ n i p. update_solve p) c z s h gains fraction ach

  settle_refuses : (limit : ℕ) (t : List Float) → RefusesOnly StartUpRefusal (settle c z limit t)
  unfolding settle
  settle_refuses zero t = refuses start_up_not_settled
  settle_refuses (suc n) t =
      bind_refuses _ (pass_refuses start_up_ventilation_below_heating (λ n i p. start_up_solve p) start_up_no_effect c z t) λ t' _.
      cond_refuses (close z t t') (accepts t) (settle_refuses n t')

  pub start_up_refusals : RefusesOnly StartUpRefusal (init_node_temps c z)
  unfolding init_node_temps
  start_up_refusals =
      bind_refuses _ (refuses_also (λ n i p. start_up_zone p) (zone_refusals z)) λ _ _.
      bind_refuses _ (settle_refuses z.start_up_limit (slots_of z (start_state z))) λ t _.
      accepts _

pub demand_keeps : (s : State) (x : Result Demand) → (demand_reply s x).1 ≡ s
demand_keeps s x = refl

pub update_keeps : (s : State) (x : Result (State × HeatBalance)) (n i : ℕ) → (update_reply s x).0 ≡ refused n i → (update_reply s x).1 ≡ s
update_keeps s (ok r) n i e = ok_not_refused r.1 n i e
update_keeps s (refused k j) n i e = refl

pub hour_keeps : (s : State) (x : Result HourResult) (n i : ℕ) → (hour_step_reply s x).0 ≡ refused n i → (hour_step_reply s x).1 ≡ s
hour_keeps s (ok r) n i e = ok_not_refused (r.demand, r.balance) n i e
hour_keeps s (refused k j) n i e = refl

pub call_refusals : (c : Coefficients) (z : Zone) → CallRefusals c z
call_refusals c z =
    record {
      operatives = λ s. operative_refusals c z s [];
      demands = demand_refusals c z;
      hour_steps = λ fixed version l s bytes. hour_step_refusals c z fixed s bytes version l;
      updates = update_refusals c z;
      start_ups = start_up_refusals c z;
    }

pub state_kept : StateKept
state_kept = record { demands = demand_keeps; updates = update_keeps; hour_steps = hour_keeps }
