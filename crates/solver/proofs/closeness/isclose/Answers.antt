-- The bits of each literal are those of its decimal, by computation.
use lib.Ieee.{of_bits}
use Rattle.solver.specs.F64.{decimal}
use Rattle.solver.specs.Closeness.{isclose}
use Rattle.solver.proofs.closeness.isclose.Goals as goal

pub returns : goal.returns
unfolding isclose of_bits decimal
returns c = c.relative_eq.ensures
