-- An hour after another, as the book asks for it, is the hour step without its heat balance: of a zone that passes its test and a version that hours have.
-- Specification, Hour step; Order of tests.
use Rattle.std.specs.Prelude.{ℕ, ◌≡◌, true, List}
use Rattle.solver.specs.Result.{ok, bind}
use Rattle.zone.specs.declared.record.building_element.Coefficients.{Coefficients}
use Rattle.zone.specs.declared.record.zone_record.Zone.{Zone}
use Rattle.zone.specs.declared.format.conditions.FixedRate.{FixedRate}
use Rattle.zone.specs.declared.format.limits.Limits.{Limits}
use Rattle.zone.specs.declared.calls.state.State.{State}
use Rattle.zone.specs.Check.ZoneTest.{zone_test}
use Rattle.zone.specs.Calls.Hour.{hour_version, hour_step}
use Rattle.zone.specs.Calls.NextHour.{next_hour}

-- its demand and the state after it, or its refusal
abbrev pub NextHourIs : Coefficients → Zone → Type 0
NextHourIs c z =
    (fixed : FixedRate) (version : ℕ) (l : Limits) (s : State) (bytes : List ℕ) → zone_test z ≡ ok tt → hour_version version ≡ true
    → next_hour fixed c z version l s bytes ≡ bind (hour_step fixed c z version l s bytes) λ r. ok (r.demand, r.state)
