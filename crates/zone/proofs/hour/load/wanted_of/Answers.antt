use Rattle.std.proofs.Common.{refl}
use Rattle.std.specs.Float.Ieee.{of_bits, neg}
use Rattle.solver.specs.F64.{decimal}
use Rattle.zone.specs.Hour.Demand.{wanted}
use Rattle.zone.proofs.hour.load.wanted_of.Goals as goal

pub returns-then-above : goal.returns-then-above
unfolding wanted of_bits neg decimal
returns-then-above c = rw (← c.above.ensures, c.if-above.true) refl

pub returns-then-below : goal.returns-then-below
unfolding wanted of_bits decimal
returns-then-below c = rw (← c.above.ensures, c.if-above.false, ← c.below.ensures, c.if-below.true) refl
