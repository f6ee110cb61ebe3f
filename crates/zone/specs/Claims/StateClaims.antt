-- Node temperatures are a state, which each call takes by value and hands back: a state that is handed back passes the next call's 4 to 6.
-- Specification, What a refusal is; Of every call.
use Rattle.std.specs.Prelude.{ℕ, ◌≡◌, List, Float}
use Rattle.solver.specs.Result.{Result, ok, refused}
use Rattle.zone.specs.declared.record.building_element.Coefficients.{Coefficients}
use Rattle.zone.specs.declared.record.zone_record.Zone.{Zone}
use Rattle.zone.specs.declared.format.conditions.FixedRate.{FixedRate}
use Rattle.zone.specs.declared.format.limits.Limits.{Limits}
use Rattle.zone.specs.declared.physics.balance.HeatBalance.{HeatBalance}
use Rattle.zone.specs.declared.calls.state.State.{State}
use Rattle.zone.specs.declared.calls.state.Demand.{Demand}
use Rattle.zone.specs.Calls.State.{zone_and_state_test}
use Rattle.zone.specs.Calls.Answers.{demand_reply, update_reply, hour_step_reply}
use Rattle.zone.specs.Calls.Hour.{update_temperatures, HourResult, hour_step}
use Rattle.zone.specs.Calls.StartUp.{init_node_temps}

module _ (c : Coefficients) (z : Zone) where
  abbrev pub UpdateStateTested : Type 0
  UpdateStateTested = (s : State) (bytes : List ℕ) (gains fraction ach : Float) (r : State × HeatBalance)
      → update_temperatures c z s bytes gains fraction ach ≡ ok r → zone_and_state_test z r.0 ≡ ok tt

  abbrev pub HourStateTested : Type 0
  HourStateTested = (fixed : FixedRate) (version : ℕ) (l : Limits) (s : State) (bytes : List ℕ) (r : HourResult) → hour_step fixed c z version l s bytes ≡ ok r → zone_and_state_test z r.state ≡ ok tt

  abbrev pub StartUpStateTested : Type 0
  StartUpStateTested = (s : State) → init_node_temps c z ≡ ok s → zone_and_state_test z s ≡ ok tt

-- a demand hands back the state that it was given, and so does a refused update or hour step. It is said of the words by which the calls' contracts tell their
-- answers, and so of any answer
pub record StateKept : Type 0 where
  pub demands : (s : State) (x : Result Demand) → (demand_reply s x).1 ≡ s
  pub updates : (s : State) (x : Result (State × HeatBalance)) (n i : ℕ) → (update_reply s x).0 ≡ refused n i → (update_reply s x).1 ≡ s
  pub hour_steps : (s : State) (x : Result HourResult) (n i : ℕ) → (hour_step_reply s x).0 ≡ refused n i → (hour_step_reply s x).1 ≡ s
