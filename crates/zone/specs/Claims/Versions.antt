-- The hour step of each entry version. The first five claims say what it is for every version and any limits, in the rule's own words and
-- with nothing of `hour_version`, `delivered_by` and `delivered_fraction`.
-- Specification, Hour step; Entry versions; Limits of the plant; Order of tests.
use Rattle.std.specs.Prelude.{ℕ, ◌≡◌, ◌≢◌, true, false, cond, List, Float}
use Rattle.std.specs.Float.Ieee.{neg, lt}
use Rattle.solver.specs.F64.{◌+ᶠ◌, ◌*ᶠ◌, zero64}
use Rattle.solver.specs.Result.{Result, ok, refused, bind}
use Rattle.zone.specs.declared.record.building_element.Coefficients.{Coefficients}
use Rattle.zone.specs.declared.record.zone_record.Zone.{Zone}
use Rattle.zone.specs.declared.format.conditions.Conditions.{Conditions}
use Rattle.zone.specs.declared.format.conditions.FixedRate.{FixedRate}
use Rattle.zone.specs.declared.format.limits.Limits.{Limits}
use Rattle.zone.specs.declared.calls.state.State.{State}
use Rattle.zone.specs.declared.calls.state.Demand.{Demand}
use Rattle.zone.specs.Record.Numbers.{false_entry, limit_value}
use Rattle.zone.specs.Check.ZoneTest.{zone_test}
use Rattle.zone.specs.Hour.Demand.{gains_heat_cool, share_or_zero, space_heat_cool_demand}
use Rattle.zone.specs.Calls.State.{slots_of}
use Rattle.zone.specs.Calls.Hour.{power_limits_range, tested, step, demand, delivered, HourResult, hour_step}

-- version 1 has the heating fraction for all power
abbrev pub heating_fraction : Conditions → (w : Float) → Float
heating_fraction h w = h.frac_convective_heat

-- from version 2 on delivered power below 0 has the cooling fraction, any other the heating fraction
abbrev pub fraction_by_sign : Conditions → (w : Float) → Float
fraction_by_sign h w = cond (lt w zero64) h.frac_convective_cool h.frac_convective_heat

-- versions 1 and 2 know no limit
abbrev pub unlimited : (w : Float) → Float
unlimited w = w

-- a delivered power strictly beyond a limit becomes the limit, one of cooling with a minus
abbrev pub at_most : Limits → (w : Float) → Float
at_most l w = cond (lt l.heating w) l.heating (cond (lt w (neg l.cooling)) (neg l.cooling) w)

-- a power beyond neither limit
pub record Within (l : Limits) (w : Float) : Type 0 where
  pub heating : lt l.heating w ≡ false
  pub cooling : lt w (neg l.cooling) ≡ false

module _ (fixed : FixedRate) (c : Coefficients) (z : Zone) (s : State) (bytes : List ℕ) where
  -- the hour step by what becomes of the delivered power and by a convective fraction, which knows no version: share = (convective + power × the fraction) / g,
  -- or 0 where g is close to 0. The demand is reported as it is asked for, whatever becomes of the power.
  unfoldable pub hour_step_with : (power : (w : Float) → Float) (fraction : Conditions → (w : Float) → Float) → Result HourResult
  hour_step_with power fraction =
      bind (tested fixed z s bytes) λ h.
      bind (space_heat_cool_demand c z (slots_of z s) h) λ d.
      let w = power (delivered h d) in
      let g = gains_heat_cool h +ᶠ w in
      let share = share_or_zero (h.gains_heat_cool_convective +ᶠ w *ᶠ fraction h w) g in
      bind (step c z s h g share d.ach_cooling) λ r.
      ok (record { demand = d; state = r.0; balance = r.1 })

  pub record VersionClaims : Type 0 where
    -- version 1's hour has the heating fraction for all power, whatever limits are handed in
    pub version_1 : (l : Limits) → hour_step fixed c z 1 l s bytes ≡ hour_step_with unlimited heating_fraction
    -- version 2's hour has the cooling fraction for delivered power below 0, whatever limits are handed in
    pub version_2 : (l : Limits) → hour_step fixed c z 2 l s bytes ≡ hour_step_with unlimited fraction_by_sign
    -- version 3 has limits, and the fractions of version 2, by the power after the limits
    pub version_3 : (l : Limits) → power_limits_range l ≡ true → hour_step fixed c z 3 l s bytes ≡ hour_step_with (at_most l) fraction_by_sign
    -- a limit out of range is 19, behind 9
    pub out_of_range : (l : Limits) → power_limits_range l ≡ false → hour_step fixed c z 3 l s bytes ≡ bind (tested fixed z s bytes) (λ _. refused limit_value 0)
    -- a version that no hour has is 18, index 0, behind the zone's 4, 5 and before 6, whatever limits, state and conditions
    pub unknown : (version : ℕ) (l : Limits) → version ≢ 1 → version ≢ 2 → version ≢ 3 → hour_step fixed c z version l s bytes ≡ bind (zone_test z) (λ _. refused false_entry 0)
    -- Where an hour has no delivered power below 0, versions 1 and 2 are one, refusals included.
    pub not_cooled : (l : Limits) → ((h : Conditions) (d : Demand) → tested fixed z s bytes ≡ ok h → demand fixed c z s bytes ≡ ok d → lt (delivered h d) zero64 ≡ false)
        → hour_step fixed c z 2 l s bytes ≡ hour_step fixed c z 1 l s bytes
    -- An hour whose power is within both limits ends as version 2's: temperatures, demand, balance, refusals.
    pub within_limits : (l : Limits) → power_limits_range l ≡ true
        → ((h : Conditions) (d : Demand) → tested fixed z s bytes ≡ ok h → demand fixed c z s bytes ≡ ok d → Within l (delivered h d))
        → hour_step fixed c z 3 l s bytes ≡ hour_step fixed c z 2 l s bytes
    -- The demand is reported uncut: that of an hour knows neither its version nor its limits.
    pub same_demand : (version : ℕ) (l : Limits) (r : HourResult) → hour_step fixed c z version l s bytes ≡ ok r → demand fixed c z s bytes ≡ ok r.demand
