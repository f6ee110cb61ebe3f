use Rattle.std.proofs.Common.{refl}
use lib.Ieee.{of_bits}
use Rattle.solver.specs.F64.{decimal}
use Rattle.zone.specs.Physics.TempOperative.{mean_of}
use Rattle.zone.proofs.physics.operative.mean_of.Goals as goal

pub returns : goal.returns
unfolding mean_of decimal of_bits
returns c = refl
