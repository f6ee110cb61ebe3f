-- The library's test of a range of floats with both ends is the comparison with each.
use Rattle.std.proofs.Common.{◌≡◌, ◌&&◌, refl}
use Rattle.std.specs.Float.Ieee.{Float, le}
use Rattle.std.specs.Ordering.{partial_le, float_partial_cmp}
use Rattle.solver.proofs.Promise.{le_is}

pub from_to_is : (low high x : Float) → (partial_le float_partial_cmp low x && partial_le float_partial_cmp x high) ≡ (le low x && le x high)
from_to_is low high x = rw (le_is low x, le_is x high) refl
