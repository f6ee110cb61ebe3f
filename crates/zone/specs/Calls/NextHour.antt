-- An hour after another: the hour step of a zone and a version that are tested already. next_then (proofs/Laws/NextHour.antt) ties it to `hour_step`.
use Rattle.std.specs.Prelude.{ℕ, List}
use Rattle.solver.specs.F64.{◌+ᶠ◌}
use Rattle.solver.specs.Result.{Result, ok, refused, bind}
use Rattle.zone.specs.declared.record.building_element.Coefficients.{Coefficients}
use Rattle.zone.specs.declared.record.zone_record.Zone.{Zone}
use Rattle.zone.specs.declared.format.conditions.FixedRate.{FixedRate}
use Rattle.zone.specs.declared.format.limits.Limits.{Limits}
use Rattle.zone.specs.declared.calls.state.State.{State}
use Rattle.zone.specs.declared.calls.state.Demand.{Demand}
use Rattle.zone.specs.Hour.Demand.{gains_heat_cool, temperatures_with, space_heat_cool_demand}
use Rattle.zone.specs.Calls.State.{slots_of, state_of}
use Rattle.zone.specs.Calls.Hour.{tested_hour_and_limits, delivered_by, convective_share}

-- the hour step of a zone and a version that are tested already, and whose heat balance nobody asks for: the demand, and the state after the hour
unfoldable pub next_hour : FixedRate → Coefficients → Zone → (version : ℕ) → Limits → State → List ℕ → Result (Demand × State)
next_hour fixed c z version l s bytes =
    bind (tested_hour_and_limits fixed z version l s bytes) λ h.
    bind (space_heat_cool_demand c z (slots_of z s) h) λ d.
    let w = delivered_by version l h d in
    let g = gains_heat_cool h +ᶠ w in
    bind (temperatures_with c z (slots_of z s) h g (convective_share version h w g) d.ach_cooling) λ t.
    ok (d, state_of z t)

-- an hour without its heat balance
abbrev pub next_hour_reply : State → Result (Demand × State) → Result Demand × State
next_hour_reply s (ok r) = (ok r.0, r.1)
next_hour_reply s (refused number index) = (refused number index, s)
