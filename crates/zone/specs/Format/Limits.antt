-- The limits of the plant: two floats behind the conditions, greatest heating and greatest cooling.
-- Specification, Entry; Limits of the plant.
use Rattle.std.specs.Prelude.{ℕ, ◌*◌, cond, List, [], ◌∷◌, length, leb}
use Rattle.solver.specs.F64.{zero64}
use Rattle.zone.specs.Format.Bytes.{float_at, float_size}
use Rattle.zone.specs.Format.Encode.{row_bytes}
use Rattle.zone.specs.declared.format.limits.Limits.{Limits}

abbrev pub power_limits_size : ℕ
power_limits_size = float_size * 2

abbrev pub limits_bytes : Limits → List ℕ
limits_bytes l = row_bytes (l.heating ∷ l.cooling ∷ [])

-- the limits in the first bytes; where there are too few, as of an hour without limits, +0.0 twice, which nothing uses
unfoldable pub limits_in : List ℕ → Limits
limits_in bytes = cond (leb power_limits_size (length bytes)) (record { heating = float_at bytes 0; cooling = float_at bytes float_size }) (record { heating = zero64; cooling = zero64 })
