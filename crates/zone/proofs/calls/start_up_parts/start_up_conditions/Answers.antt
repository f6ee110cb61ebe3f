use Rattle.std.proofs.Common.{refl}
use lib.Ieee.{of_bits}
use Rattle.solver.specs.F64.{decimal}
use Rattle.zone.specs.Calls.StartUp.{start_up_conditions}
use Rattle.zone.proofs.calls.start_up_parts.start_up_conditions.Goals as goal

pub returns : goal.returns
unfolding start_up_conditions of_bits decimal
returns c = rw c.first_hours.ensures refl
