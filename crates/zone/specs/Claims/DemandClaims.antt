-- What is claimed of a demand: heating is not below 0, cooling not above it, and at most one of them is not 0.
-- Specification, What a demand answers; Units and signs.
use Rattle.std.specs.Prelude.{ℕ, ◌≡◌, true, ◌⊎◌, List}
use Rattle.std.specs.Float.Ieee.{le}
use Rattle.solver.specs.F64.{zero64}
use Rattle.solver.specs.Result.{ok}
use Rattle.zone.specs.declared.record.building_element.Coefficients.{Coefficients}
use Rattle.zone.specs.declared.record.zone_record.Zone.{Zone}
use Rattle.zone.specs.declared.format.conditions.FixedRate.{FixedRate}
use Rattle.zone.specs.declared.format.limits.Limits.{Limits}
use Rattle.zone.specs.declared.calls.state.State.{State}
use Rattle.zone.specs.declared.calls.state.Demand.{Demand}
use Rattle.zone.specs.Calls.Hour.{demand, HourResult, hour_step}

pub record Signs (d : Demand) : Type 0 where
  pub heating : le zero64 d.space_heat_demand ≡ true
  pub cooling : le d.space_cool_demand zero64 ≡ true
  pub one : (d.space_heat_demand ≡ zero64) ⊎ (d.space_cool_demand ≡ zero64)

-- heating is at least 0 and cooling at most 0, and one of them is 0: of every accepted demand, and of that in every accepted hour step
abbrev pub DemandCallSigns : Coefficients → Zone → Type 0
DemandCallSigns c z = (fixed : FixedRate) (s : State) (bytes : List ℕ) (d : Demand) → demand fixed c z s bytes ≡ ok d → Signs d

abbrev pub HourCallSigns : Coefficients → Zone → Type 0
HourCallSigns c z = (fixed : FixedRate) (version : ℕ) (l : Limits) (s : State) (bytes : List ℕ) (r : HourResult) → hour_step fixed c z version l s bytes ≡ ok r → Signs r.demand
