use lib.Ieee.{of_bits}
use Rattle.solver.specs.F64.{decimal}
use Rattle.zone.specs.Physics.Ventilation.{calc_vent_heat_transfer_coeff}
use Rattle.zone.proofs.physics.ventilation.calc_vent_heat_transfer_coeff.Goals as goal

pub returns : goal.returns
unfolding calc_vent_heat_transfer_coeff of_bits decimal
returns c = rw (c.density_kg_per_m3.ensures, c.air_properties-air.ensures)
