-- The bits of each literal are those of its decimal, by computation.
use lib.Ieee.{of_bits}
use Rattle.solver.specs.F64.{decimal}
use Rattle.solver.specs.Closeness.{close_in_windows_test}
use Rattle.solver.proofs.closeness.close_in_windows_test.Goals as goal

pub returns : goal.returns
unfolding close_in_windows_test of_bits decimal
returns c = c.relative_eq.ensures
