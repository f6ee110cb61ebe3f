-- The bits of each literal are those of its decimal, by computation; the library's comparisons are the definition's.
use Rattle.std.proofs.Common.{rules, tests}
use lib.Ieee.{of_bits, neg}
use Rattle.solver.specs.F64.{decimal}
use Rattle.solver.specs.Closeness.{within_state_bound}
use Rattle.solver.proofs.Laws.Order.{le_is}
use Rattle.solver.proofs.closeness.within_state_bound.Goals as goal

pub returns : goal.returns
unfolding within_state_bound of_bits decimal neg
returns c = search (rules, tests, le_is)
