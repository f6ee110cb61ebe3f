-- Limits: written and read back, and where they are not looked at.
use Rattle.std.proofs.Common.{ℕ, ◌≡◌, refl, ap, Bool, true, false, List, [], ◌∷◌, ◌++◌, T, length, to_bits}
use lib.Ieee.{binary64, fits}
use Rattle.zone.specs.declared.record.building_element.Coefficients.{Coefficients}
use Rattle.zone.specs.declared.record.zone_record.Zone.{Zone}
use Rattle.zone.specs.declared.format.conditions.FixedRate.{FixedRate}
use Rattle.zone.specs.declared.format.limits.Limits.{Limits}
use Rattle.zone.specs.declared.calls.state.State.{State}
use Rattle.zone.specs.Format.Bytes.{float_size}
use Rattle.zone.specs.Format.Encode.{float_bytes, row_bytes}
use Rattle.zone.specs.Format.Limits.{power_limits_size, limits_bytes, limits_in}
use Rattle.zone.specs.Calls.Hour.{has_limits, tested_hour_and_limits, tested_step, delivered_by, hour_step}
use Rattle.zone.proofs.Laws.RoundTrip.{float_back}
use Rattle.zone.proofs.Claims.ForBook.{length_bytes_of, length_row}

pub limits_length_lem : (l : Limits) → length (limits_bytes l) ≡ power_limits_size
limits_length_lem l = length_row (l.heating ∷ l.cooling ∷ [])

-- every limit that an f64 holds
pub limits_back : (l : Limits) → T (fits binary64 l.heating) → T (fits binary64 l.cooling) → limits_in (limits_bytes l) ≡ l
unfolding limits_in row_bytes
limits_back l h c =
    let first = float_back [] (float_bytes l.cooling ++ []) 0 l.heating refl h in
    let second = float_back (float_bytes l.heating) [] float_size l.cooling (length_bytes_of float_size (to_bits binary64 l.heating)) c in
    rw (limits_length_lem l) (λ i. record { heating = first i; cooling = second i })

-- two hours whose limits differ are one where the version has none
pub same_limits : (fixed : FixedRate) (c : Coefficients) (z : Zone) (version : ℕ) (l l' : Limits) (s : State) (bytes : List ℕ) → (has_limits version ≡ true → l ≡ l')
    → hour_step fixed c z version l s bytes ≡ hour_step fixed c z version l' s bytes
unfolding hour_step tested_step tested_hour_and_limits delivered_by
same_limits fixed c z version l l' s bytes f = go (has_limits version) refl
  where
    go : (b : Bool) → has_limits version ≡ b → hour_step fixed c z version l s bytes ≡ hour_step fixed c z version l' s bytes
    go true e = ap (λ x. hour_step fixed c z version x s bytes) (f e)
    go false e = rw e refl
