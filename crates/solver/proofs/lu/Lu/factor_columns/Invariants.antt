use Rattle.std.proofs.Common.{◌≡◌}
use Rattle.solver.specs.Repeat.{repeat}
use Rattle.solver.specs.Inner.Columns.{factor_column}
use Rattle.solver.proofs.lu.Lu.factor_columns.Given as goal

abbrev pub invariant-loop-k : goal.invariant-loop-k
invariant-loop-k l = repeat l.k l.count.n (factor_column l.count.n) l.self ≡ repeat 0 l.count.n (factor_column l.count.n) l.fn.self
