use Rattle.std.proofs.Common.{refl}
use lib.Ieee.{of_bits}
use Rattle.solver.specs.F64.{decimal}
use Rattle.zone.specs.Physics.Ventilation.{density_kg_per_m3}
use Rattle.zone.proofs.record.material_properties.density_kg_per_m3.Goals as goal

pub returns : goal.returns
unfolding density_kg_per_m3 of_bits decimal
returns c = refl
