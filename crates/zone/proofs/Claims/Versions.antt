-- What the hour step is in each entry version; that no other is answered; and what the versions share.
use Rattle.std.proofs.Common.{ℕ, ◌≡◌, refl, sym, ◌∙◌, true, false, List, Float}
use lib.Ieee.{lt}
use Rattle.solver.specs.F64.{zero64}
use Rattle.solver.specs.Result.{Result, ok, refused, bind}
use Rattle.zone.specs.declared.record.building_element.Coefficients.{Coefficients}
use Rattle.zone.specs.declared.record.zone_record.Zone.{Zone}
use Rattle.zone.specs.declared.format.conditions.Conditions.{Conditions}
use Rattle.zone.specs.declared.format.conditions.FixedRate.{FixedRate}
use Rattle.zone.specs.declared.format.limits.Limits.{Limits}
use Rattle.zone.specs.declared.calls.state.State.{State}
use Rattle.zone.specs.declared.calls.state.Demand.{Demand}
use Rattle.zone.specs.Record.Numbers.{false_entry, limit_value}
use Rattle.zone.specs.Check.ZoneTest.{zone_test}
use Rattle.zone.specs.Hour.Demand.{space_heat_cool_demand}
use Rattle.zone.specs.Calls.State.{slots_of}
use Rattle.zone.specs.Calls.Hour.{hour_version, power_limits_range, tested_hour, tested, tested_hour_and_limits, tested_step, demand, delivered, limited, delivered_by, delivered_fraction, convective_share, HourResult, hour_step}
use Rattle.zone.specs.Claims.Versions.{heating_fraction, fraction_by_sign, unlimited, at_most, Within, hour_step_with, VersionClaims}
use Rattle.zone.proofs.Laws.Accepted.{hour_made}
use Rattle.zone.proofs.Laws.Versions.{hour_version_not, step_known}

module _ (fixed : FixedRate) (c : Coefficients) (z : Zone) (s : State) (bytes : List ℕ) where
  version_1 : (l : Limits) → hour_step fixed c z 1 l s bytes ≡ hour_step_with fixed c z s bytes unlimited heating_fraction
  unfolding hour_step hour_step_with delivered_by convective_share delivered_fraction
  version_1 l = rw (step_known fixed z 1 l s bytes refl refl) refl

  version_2 : (l : Limits) → hour_step fixed c z 2 l s bytes ≡ hour_step_with fixed c z s bytes unlimited fraction_by_sign
  unfolding hour_step hour_step_with delivered_by convective_share delivered_fraction
  version_2 l = rw (step_known fixed z 2 l s bytes refl refl) refl

  version_3 : (l : Limits) → power_limits_range l ≡ true → hour_step fixed c z 3 l s bytes ≡ hour_step_with fixed c z s bytes (at_most l) fraction_by_sign
  unfolding hour_step hour_step_with delivered_by limited convective_share delivered_fraction
  version_3 l k = rw (step_known fixed z 3 l s bytes refl k) refl

  out_of_range : (l : Limits) → power_limits_range l ≡ false → hour_step fixed c z 3 l s bytes ≡ bind (tested fixed z s bytes) (λ _. refused limit_value 0)
  unfolding hour_step tested_step tested_hour_and_limits tested
  out_of_range l k = by_zone (zone_test z) refl
    where
      by_hour : (y : Result Conditions) → tested_hour fixed z s bytes ≡ y → zone_test z ≡ ok tt → hour_step fixed c z 3 l s bytes ≡ bind (tested fixed z s bytes) (λ _. refused limit_value 0)
      by_hour (ok h) q p = rw (p, q, k) refl
      by_hour (refused n i) q p = rw (p, q) refl

      by_zone : (x : Result (Unit {0})) → zone_test z ≡ x → hour_step fixed c z 3 l s bytes ≡ bind (tested fixed z s bytes) (λ _. refused limit_value 0)
      by_zone (ok u) p = by_hour (tested_hour fixed z s bytes) refl p
      by_zone (refused n i) p = rw p refl

  unknown_by : (version : ℕ) (l : Limits) → hour_version version ≡ false → (x : Result (Unit {0})) → zone_test z ≡ x
      → hour_step fixed c z version l s bytes ≡ bind (zone_test z) (λ _. refused false_entry 0)
  unfolding hour_step tested_step
  unknown_by version l k (ok u) p = rw (p, k) refl
  unknown_by version l k (refused n i) p = rw p refl

  -- two ways to meet a demand that agree on what it delivers end alike
  module _ (power power' : (w : Float) → Float) (fraction fraction' : Conditions → (w : Float) → Float)
      (alike : (h : Conditions) (d : Demand) → tested fixed z s bytes ≡ ok h → demand fixed c z s bytes ≡ ok d
      → (power (delivered h d) ≡ power' (delivered h d)) × (fraction h (power' (delivered h d)) ≡ fraction' h (power' (delivered h d)))) where
    met_alike : hour_step_with fixed c z s bytes power fraction ≡ hour_step_with fixed c z s bytes power' fraction'
    unfolding hour_step_with demand
    met_alike = read (tested fixed z s bytes) refl
      where
        asked : (h : Conditions) → tested fixed z s bytes ≡ ok h → (x : Result Demand) → space_heat_cool_demand c z (slots_of z s) h ≡ x
            → hour_step_with fixed c z s bytes power fraction ≡ hour_step_with fixed c z s bytes power' fraction'
        asked h p (ok d) q = let a = alike h d p (rw p q) in rw (p, q, a.0, a.1) refl
        asked h p (refused n i) q = rw (p, q) refl

        read : (x : Result Conditions) → tested fixed z s bytes ≡ x → hour_step_with fixed c z s bytes power fraction ≡ hour_step_with fixed c z s bytes power' fraction'
        read (ok h) p = asked h p _ refl
        read (refused n i) p = rw p refl

  not_cooled : (l : Limits) → ((h : Conditions) (d : Demand) → tested fixed z s bytes ≡ ok h → demand fixed c z s bytes ≡ ok d → lt (delivered h d) zero64 ≡ false)
      → hour_step fixed c z 2 l s bytes ≡ hour_step fixed c z 1 l s bytes
  not_cooled l f = version_2 l ∙ met_alike unlimited unlimited fraction_by_sign heating_fraction (λ h d p q. (refl, rw (f h d p q) refl)) ∙ sym (version_1 l)

  within_limits : (l : Limits) → power_limits_range l ≡ true
      → ((h : Conditions) (d : Demand) → tested fixed z s bytes ≡ ok h → demand fixed c z s bytes ≡ ok d → Within l (delivered h d))
      → hour_step fixed c z 3 l s bytes ≡ hour_step fixed c z 2 l s bytes
  within_limits l k f =
      version_3 l k
      ∙ met_alike (at_most l) unlimited fraction_by_sign fraction_by_sign (λ h d p q. let w = f h d p q in (rw (w.heating, w.cooling) refl, refl))
      ∙ sym (version_2 l)

  same_demand : (version : ℕ) (l : Limits) (r : HourResult) → hour_step fixed c z version l s bytes ≡ ok r → demand fixed c z s bytes ≡ ok r.demand
  unfolding demand
  same_demand version l r e = let m = hour_made c z s fixed version l bytes r e in rw m.tests m.answered

  pub version_claims : VersionClaims fixed c z s bytes
  version_claims =
      record {
        version_1 = version_1;
        version_2 = version_2;
        version_3 = version_3;
        out_of_range = out_of_range;
        unknown = λ version l a b d. unknown_by version l (hour_version_not version a b d) (zone_test z) refl;
        not_cooled = not_cooled;
        within_limits = within_limits;
        same_demand = same_demand;
      }
