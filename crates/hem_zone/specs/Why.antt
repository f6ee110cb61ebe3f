-- Why this rate, why this load (zone specs/Calls/Why.antt), of an hour on the zone of a head. The definition gives the returned number, then what stands in
-- `reason` and `load` after the call.
-- Specification, Why this rate, why this load; Answers in C.
use Rattle.std.specs.Prelude.{ℕ, List, Float}
use Rattle.zone.specs.Record.BuildingElement.{standard_coefficients}
use Rattle.zone.specs.declared.calls.state.Reason.{Reason}
use Rattle.zone.specs.declared.calls.state.Load.{Load}
use Rattle.zone.specs.Calls.Why.{why}
use Rattle.zone.specs.Calls.Numbers.{reason_number, load_number}
use Rattle.hem_zone.specs.Code.{answered}
use Rattle.hem_zone.specs.Arrays.{state_in}
use Rattle.hem_zone.specs.Zone.{with_zone}

abbrev pub why_out : Reason × Load → ℕ × ℕ
why_out r = (reason_number r.0, load_number r.1)

unfoldable pub hem_why_outcome : (head : List ℕ) → (temps : List Float) → (nodes : ℕ) → (conditions : List ℕ) → (reason load : ℕ) → ℕ × (ℕ × ℕ)
hem_why_outcome head temps nodes conditions reason load =
    answered why_out (reason, load)
    (with_zone head λ z. why standard_coefficients z (state_in temps nodes) conditions)
