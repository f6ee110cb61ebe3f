use Rattle.std.proofs.Common.{refl}
use lib.Ieee.{of_bits}
use Rattle.solver.specs.F64.{decimal}
use Rattle.zone.proofs.calls.start_up_parts.temp_start.Goals as goal

pub returns : goal.returns
unfolding of_bits decimal
returns c = refl
