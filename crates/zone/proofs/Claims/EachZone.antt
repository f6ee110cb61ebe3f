-- What is claimed of each zone (specs/Claims/EachZone.antt), from the theorems that prove it.
use Rattle.zone.proofs.Claims.FixedRate.{retired_claims, hour_still}
use Rattle.zone.proofs.Claims.SameHour.{same_hour}
use Rattle.zone.specs.declared.record.zone_record.Zone.{Zone}
use Rattle.zone.specs.Record.BuildingElement.{standard_coefficients}
use Rattle.zone.proofs.Claims.Demand.{demand_call_signs, hour_call_signs}
use Rattle.zone.proofs.Claims.Why.{why_answers, why_refuses}
use Rattle.zone.proofs.Claims.StartUp.{start_up_not_settled_lem, start_up_is_not_settled, start_up_settled, start_up_is_settled}
use Rattle.zone.proofs.Claims.State.{update_state_tested, hour_state_tested, start_up_state_tested}
use Rattle.zone.proofs.Claims.Reasons.{operative_reasons, demand_reasons, hour_reasons, update_reasons, start_up_reasons}
use Rattle.zone.proofs.Claims.HeadClaims.{head_claims, zone_claims, conditions_claims}
use Rattle.zone.proofs.Claims.HourRead.{hour_read}
use Rattle.zone.proofs.Claims.NextHour.{next_hour_is}
use Rattle.zone.proofs.Claims.Index.{indices_of_zone}
use Rattle.zone.proofs.Claims.Refusals.{call_refusals, state_kept}
use Rattle.zone.proofs.Claims.Versions as Hours
use Rattle.zone.proofs.Claims.Convection.{yields_direction, update_by_direction, hour_by_direction}
use Rattle.zone.specs.Claims.EachZone.{EachZone}

pub each_zone : (z : Zone) → EachZone z
each_zone z =
    record {
      heads = head_claims;
      zone = zone_claims z;
      conditions = λ fixed. conditions_claims fixed z;
      hours = λ few fixed c. hour_read fixed z c few;
      refusals = call_refusals standard_coefficients z;
      operative_reasons = operative_reasons z;
      demand_reasons = demand_reasons standard_coefficients z;
      hour_reasons = hour_reasons standard_coefficients z;
      update_reasons = update_reasons standard_coefficients z;
      start_up_reasons = start_up_reasons standard_coefficients z;
      indices = indices_of_zone standard_coefficients z;
      next_hour = next_hour_is standard_coefficients z;
      demand_signs = demand_call_signs standard_coefficients z;
      hour_signs = hour_call_signs standard_coefficients z;
      why_answers = why_answers standard_coefficients z;
      why_refuses = why_refuses standard_coefficients z;
      not_settled_lem = start_up_not_settled_lem standard_coefficients z;
      is_not_settled = start_up_is_not_settled standard_coefficients z;
      settled = start_up_settled standard_coefficients z;
      is_settled = start_up_is_settled standard_coefficients z;
      versions = λ fixed. Hours.version_claims fixed standard_coefficients z;
      retired = retired_claims z;
      hour_still = hour_still standard_coefficients z;
      same_hour = same_hour standard_coefficients z;
      directions = yields_direction;
      update_directions = update_by_direction z;
      hour_directions = hour_by_direction z;
      kept = state_kept;
      update_state = update_state_tested standard_coefficients z;
      hour_state = hour_state_tested standard_coefficients z;
      start_up_state = start_up_state_tested standard_coefficients z;
    }
