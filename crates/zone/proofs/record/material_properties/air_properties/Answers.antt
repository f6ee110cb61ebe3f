use Rattle.std.proofs.Common.{refl}
use lib.Ieee.{of_bits}
use Rattle.solver.specs.F64.{decimal}
use Rattle.zone.specs.Physics.Ventilation.{air_properties}
use Rattle.zone.proofs.record.material_properties.air_properties.Goals as goal

pub returns : goal.returns
unfolding air_properties of_bits decimal
returns c = refl
