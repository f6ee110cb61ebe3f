-- What the calls answer, and the state that they hand back: the new one, or where they refuse the one that was given.
-- Specification, What a refusal is; Of every call.
use Rattle.std.specs.Prelude.{Ok, Err}
use Rattle.std.specs.Prelude as Rust
use Rattle.solver.specs.Result.{Result, ok, refused}
use Rattle.zone.specs.Answers.{number_of, index_of, answered}
use Rattle.zone.specs.declared.physics.balance.HeatBalance.{HeatBalance}
use Rattle.zone.specs.declared.calls.state.State.{State}
use Rattle.zone.specs.declared.calls.state.Demand.{Demand}
use Rattle.zone.specs.declared.calls.state.Reply.{Reply}
use Rattle.zone.specs.declared.record.refusal.Refusal.{Refusal}
use Rattle.zone.specs.Calls.Hour.{HourResult}

module _ {A : Type 0} where
  abbrev pub reply_in : Reply A → Result A × State
  reply_in r = (answered r.answer, r.state)

-- demand changes no state
abbrev pub demand_reply : State → Result Demand → Result Demand × State
demand_reply s x = (x, s)

-- an answer with the state after it
module _ {A : Type 0} where
  abbrev pub update_reply : State → Result (State × A) → Result A × State
  update_reply s (ok r) = (ok r.1, r.0)
  update_reply s (refused number index) = (refused number index, s)

abbrev pub hour_step_reply : State → Result HourResult → Result (Demand × HeatBalance) × State
hour_step_reply s (ok r) = (ok (r.demand, r.balance), r.state)
hour_step_reply s (refused number index) = (refused number index, s)

-- an hour step's answer with the state after it
abbrev pub hour_stepped : Rust.Result (State × (Demand × HeatBalance)) Refusal → Result HourResult
hour_stepped (Ok r) = ok (record { demand = r.1.0; state = r.0; balance = r.1.1 })
hour_stepped (Err e) = refused (number_of e) (index_of e)
