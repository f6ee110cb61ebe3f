use Rattle.std.proofs.Common.{length, ◌-◌}
use Rattle.tools.proofs.Laws.ConvertLoop.{Part}
use Rattle.tools.proofs.converter.convert_entries.Given as goal

abbrev pub decreases-loop-record : goal.decreases-loop-record
decreases-loop-record l = length l.entries - l.at

abbrev pub invariant-loop-record : goal.invariant-loop-record
invariant-loop-record l = Part l.z l.entries l.fn.out l.out l.at
