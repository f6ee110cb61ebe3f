-- The claims of heads, zones and conditions.
use Rattle.std.proofs.Common.{ℕ, ◌≡◌, List}
use Rattle.solver.specs.Result.{ok}
use Rattle.zone.specs.Format.Head.{ReadHead, head_of}
use Rattle.zone.specs.Claims.Head.{HeadClaims, AcceptedHead, ZoneClaims, ConditionsClaims}
use Rattle.zone.specs.declared.record.zone_record.Zone.{Zone}
use Rattle.zone.specs.declared.format.conditions.FixedRate.{FixedRate}
use Rattle.zone.proofs.Claims.HeadAlike.{head_alike}
use Rattle.zone.proofs.Claims.Head.{head_within, head_then, head_tested, head_as_record, head_length_lem, zone_count}
use Rattle.zone.proofs.Claims.HeadBytes.{head_bytes_lem, head_injective}
use Rattle.zone.proofs.Claims.HeadRead.{head_read}
use Rattle.zone.proofs.Claims.AsRead.{head_fits, head_unused, conditions_in_range, conditions_unused}
use Rattle.zone.proofs.Claims.HeadRefusals.{head_refusals, zone_refusals, conditions_refusals}
use Rattle.zone.proofs.Claims.HeadIndex.{head_indices}
use Rattle.zone.proofs.Claims.Conditions.{conditions_length_lem}
use Rattle.zone.proofs.Claims.ConditionsBytes.{conditions_bytes_lem, conditions_injective}

pub accepted_head : (bs : List ℕ) (h : ReadHead Zone) → head_of bs ≡ ok h → AcceptedHead bs h
accepted_head bs h e =
    record {
      within = head_within bs h e;
      size = head_length_lem bs h e;
      tested = head_tested bs h e;
      followed = λ behind. head_then bs behind h e;
      bytes = λ b. head_bytes_lem bs h b e;
      fits = λ b. head_fits bs h b e;
      unused = head_unused bs h e;
    }

pub head_claims : HeadClaims
head_claims = record { accepted = accepted_head; alike = λ a b n m ha hb s. head_alike a b n s ha hb m; as_record = head_as_record; read = head_read; injective = head_injective; refusals = head_refusals; indices = head_indices }

pub zone_claims : (z : Zone) → ZoneClaims z
zone_claims z = record { refusals = zone_refusals z; count = zone_count z }

pub conditions_claims : (fixed : FixedRate) (z : Zone) (bs : List ℕ) → ConditionsClaims fixed z bs
conditions_claims fixed z bs =
    record {
      refusals = conditions_refusals fixed z bs;
      size = conditions_length_lem fixed z bs;
      bytes = conditions_bytes_lem fixed z bs;
      in_range = conditions_in_range fixed z bs;
      unused = conditions_unused fixed z bs;
      injective = λ c other. conditions_injective fixed z bs other c;
    }
