use Rattle.tools.specs.Inner.Hours.{hours_left}
use Rattle.tools.proofs.Laws.Above.{NoneYet}
use Rattle.tools.proofs.above.hour_above.Given as goal

abbrev pub invariant-loop-hour : goal.invariant-loop-hour
invariant-loop-hour l = NoneYet l.value l.start (hours_left l.fn.hours) l.hour-iterator.count l.before (hours_left l.hour-iterator.iter)
