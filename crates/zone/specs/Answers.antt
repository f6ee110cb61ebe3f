-- What a call answers, in the words of the definitions: a refusal by its number and index.
-- Specification, Table of refusals; What a refusal is.
use Rattle.std.specs.Prelude.{ℕ, Ok, Err, List, Float}
use Rattle.std.specs.Prelude as Rust
use Rattle.solver.specs.Answers as Solver
use Rattle.solver.specs.Result.{Result, ok, refused}
use Rattle.zone.specs.declared.record.refusal.Refusal.{Refusal}
use Rattle.zone.specs.declared.calls.state.State.{State}
use Rattle.zone.specs.Record.Numbers as Number

abbrev pub number_of : Refusal → ℕ
number_of Refusal.HeadShort = Number.head_short
number_of Refusal.HeadLength = Number.head_length
number_of Refusal.HeadVersion = Number.head_version
number_of (Refusal.Structure index) = Number.structure
number_of (Refusal.ZoneValue index) = Number.zone_value
number_of Refusal.StateInvalid = Number.state_invalid
number_of Refusal.ConditionsSize = Number.conditions_size
number_of Refusal.ConditionsCode = Number.conditions_code
number_of (Refusal.ConditionsValue index) = Number.conditions_value
number_of Refusal.CoolingBelowHeating = Number.cooling_below_heating
number_of Refusal.VentilationBelowHeating = Number.ventilation_below_heating
number_of (Refusal.Solve e) = Solver.number_of e
number_of Refusal.NoEffect = Number.no_effect
number_of Refusal.NotSettled = Number.not_settled
number_of (Refusal.FalseEntry index) = Number.false_entry
number_of Refusal.LimitValue = Number.limit_value

abbrev pub index_of : Refusal → ℕ
index_of Refusal.HeadShort = 0
index_of Refusal.HeadLength = 0
index_of Refusal.HeadVersion = 0
index_of (Refusal.Structure index) = index
index_of (Refusal.ZoneValue index) = index
index_of Refusal.StateInvalid = 0
index_of Refusal.ConditionsSize = 0
index_of Refusal.ConditionsCode = 0
index_of (Refusal.ConditionsValue index) = index
index_of Refusal.CoolingBelowHeating = 0
index_of Refusal.VentilationBelowHeating = 0
index_of (Refusal.Solve e) = 0
index_of Refusal.NoEffect = 0
index_of Refusal.NotSettled = 0
index_of (Refusal.FalseEntry index) = index
index_of Refusal.LimitValue = 0

module _ {A : Type 0} where
  abbrev pub answered : Rust.Result A Refusal → Result A
  answered (Ok a) = ok a
  answered (Err e) = refused (number_of e) (index_of e)

  -- an answer with what stands beside it, which counts where it accepts: a last column, or the temperatures after the hour
  abbrev pub answered_with : Rust.Result A Refusal → List Float → Result (A × List Float)
  answered_with (Ok a) xs = ok (a, xs)
  answered_with (Err e) xs = refused (number_of e) (index_of e)

  -- an answer with the state that the call leaves
  abbrev pub changed_by : Rust.Result A Refusal → State → Result (A × State)
  changed_by (Ok a) s = ok (a, s)
  changed_by (Err e) s = refused (number_of e) (index_of e)
