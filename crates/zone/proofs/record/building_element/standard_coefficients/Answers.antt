use Rattle.std.proofs.Common.{refl}
use lib.Ieee.{of_bits}
use Rattle.solver.specs.F64.{decimal}
use Rattle.zone.specs.Record.BuildingElement.{standard_coefficients}
use Rattle.zone.proofs.record.building_element.standard_coefficients.Goals as goal

pub returns : goal.returns
unfolding standard_coefficients of_bits decimal
returns c = refl
