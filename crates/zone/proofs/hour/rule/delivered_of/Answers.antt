use Rattle.std.proofs.Common.{refl}
use lib.Ieee.{of_bits}
use Rattle.solver.specs.F64.{decimal}
use Rattle.zone.specs.Calls.Hour.{delivered}
use Rattle.zone.proofs.hour.rule.delivered_of.Goals as goal

pub returns : goal.returns
unfolding delivered of_bits decimal
returns c = refl
