-- The operative temperature, BS EN ISO 52016-1, 6.5.5.3, from temperatures in their slots.
-- Specification, Operative temperature.
use Rattle.std.specs.Prelude.{List, Float}
use Rattle.solver.specs.F64.{◌+ᶠ◌, ◌*ᶠ◌, ◌/ᶠ◌, decimal}
use Rattle.solver.specs.Sums.{sum2, terms}
use Rattle.solver.specs.FastSolver.{at_most24}
use Rattle.zone.specs.declared.record.zone_record.Zone.{Zone}
use Rattle.zone.specs.Physics.Slots.{air, inner_surface}
use Rattle.zone.specs.Physics.System.{area_of, area_el_total}

unfoldable pub mean_of : (x y : Float) → Float
mean_of x y = (x +ᶠ y) /ᶠ decimal 2 0

-- the mean of the air's and of the mean radiant temperature
unfoldable pub temp_operative : Zone → List Float → Float
temp_operative z t =
    let n = at_most24 z.count in
    let es = z.building_elements in
    mean_of (air t) (sum2 (terms 0 n (λ e. area_of es e *ᶠ inner_surface t e)) /ᶠ area_el_total n es)
