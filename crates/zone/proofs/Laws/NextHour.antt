-- An hour of a zone and a version that are tested, without its heat balance, is the hour step's: the heat balance is never refused.
use Rattle.std.proofs.Common.{◌≡◌, refl, true, List, ℕ, Float}
use Rattle.solver.specs.F64.{◌+ᶠ◌}
use Rattle.solver.specs.Result.{Result, ok, refused, bind}
use Rattle.zone.specs.declared.record.building_element.Coefficients.{Coefficients}
use Rattle.zone.specs.declared.record.zone_record.Zone.{Zone}
use Rattle.zone.specs.declared.format.conditions.Conditions.{Conditions}
use Rattle.zone.specs.declared.format.conditions.FixedRate.{FixedRate}
use Rattle.zone.specs.declared.format.limits.Limits.{Limits}
use Rattle.zone.specs.declared.calls.state.State.{State}
use Rattle.zone.specs.declared.calls.state.Demand.{Demand}
use Rattle.zone.specs.Check.ZoneTest.{zone_test}
use Rattle.zone.specs.Calls.State.{slots_of}
use Rattle.zone.specs.Hour.Demand.{gains_heat_cool, temperatures_with, space_heat_cool_demand}
use Rattle.zone.specs.Calls.Hour.{hour_version, tested_hour_and_limits, tested_step, step, delivered_by, convective_share, hour_step}
use Rattle.zone.specs.Calls.NextHour.{next_hour}

module _ (fixed : FixedRate) (c : Coefficients) (z : Zone) (version : ℕ) (l : Limits) (s : State) (bytes : List ℕ) (zone : zone_test z ≡ ok tt) (known : hour_version version ≡ true) where
  module _ {A : Type 0} (f : Demand → State → Result A) where
    -- whatever follows from demand and state follows from either
    pub next_then : bind (hour_step fixed c z version l s bytes) (λ r. f r.demand r.state) ≡ bind (next_hour fixed c z version l s bytes) (λ r. f r.0 r.1)
    unfolding hour_step next_hour tested_step step
    next_then = read (tested_hour_and_limits fixed z version l s bytes) refl
      where
        solved : (h : Conditions) → tested_hour_and_limits fixed z version l s bytes ≡ ok h → (d : Demand) → space_heat_cool_demand c z (slots_of z s) h ≡ ok d → (y : Result (List Float))
            → temperatures_with c z (slots_of z s) h (gains_heat_cool h +ᶠ delivered_by version l h d) (convective_share version h (delivered_by version l h d) (gains_heat_cool h +ᶠ delivered_by version l h d)) d.ach_cooling ≡ y
            → bind (hour_step fixed c z version l s bytes) (λ r. f r.demand r.state) ≡ bind (next_hour fixed c z version l s bytes) (λ r. f r.0 r.1)
        solved h p d q (ok t) e = rw (zone, known, p, q, e) refl
        solved h p d q (refused n i) e = rw (zone, known, p, q, e) refl

        asked : (h : Conditions) → tested_hour_and_limits fixed z version l s bytes ≡ ok h → (x : Result Demand) → space_heat_cool_demand c z (slots_of z s) h ≡ x
            → bind (hour_step fixed c z version l s bytes) (λ r. f r.demand r.state) ≡ bind (next_hour fixed c z version l s bytes) (λ r. f r.0 r.1)
        asked h p (ok d) q = solved h p d q _ refl
        asked h p (refused n i) q = rw (zone, known, p, q) refl

        read : (x : Result Conditions) → tested_hour_and_limits fixed z version l s bytes ≡ x → bind (hour_step fixed c z version l s bytes) (λ r. f r.demand r.state) ≡ bind (next_hour fixed c z version l s bytes) (λ r. f r.0 r.1)
        read (ok h) p = asked h p _ refl
        read (refused n i) p = rw (zone, known, p) refl
