use Rattle.tools.specs.Inner.Hours.{hours_left}
use Rattle.tools.proofs.Laws.Nearest.{NearestYet}
use Rattle.tools.proofs.nearest.hour_nearest.Given as goal

abbrev pub invariant-loop-hour : goal.invariant-loop-hour
invariant-loop-hour l = NearestYet l.value (hours_left l.fn.hours) l.hour-iterator.count l.nearest (hours_left l.hour-iterator.iter)
