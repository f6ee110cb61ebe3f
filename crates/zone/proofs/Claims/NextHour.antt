-- An hour after another is the hour step without its heat balance.
use Rattle.std.proofs.Common.{◌≡◌, refl, sym, ◌∙◌}
use Rattle.solver.specs.Result.{Result, ok, refused, bind}
use Rattle.zone.specs.declared.record.building_element.Coefficients.{Coefficients}
use Rattle.zone.specs.declared.record.zone_record.Zone.{Zone}
use Rattle.zone.specs.declared.calls.state.State.{State}
use Rattle.zone.specs.declared.calls.state.Demand.{Demand}
use Rattle.zone.specs.Calls.NextHour.{next_hour}
use Rattle.zone.specs.Claims.NextHourClaims.{NextHourIs}
use Rattle.zone.proofs.Laws.NextHour.{next_then}

pair_back : (x : Result (Demand × State)) → bind x (λ r. ok (r.0, r.1)) ≡ x
pair_back (ok r) = refl
pair_back (refused n i) = refl

pub next_hour_is : (c : Coefficients) (z : Zone) → NextHourIs c z
next_hour_is c z fixed version l s bytes zone known =
    sym (pair_back (next_hour fixed c z version l s bytes)) ∙ sym (next_then fixed c z version l s bytes zone known (λ d after. ok (d, after)))
