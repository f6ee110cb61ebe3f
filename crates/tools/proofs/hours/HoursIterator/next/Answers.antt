use Rattle.std.proofs.Common.{refl, rules}
use Rattle.tools.proofs.Laws.Hours.{hour_inside, hour_next}
use Rattle.tools.proofs.hours.HoursIterator.next.Goals as goal

pub slice_bounds-self-count : goal.slice_bounds-self-count
slice_bounds-self-count c = hour_inside _ _ _ c.read_record.ensures.0 _ c.in_ok-record.was _ c.length.ensures

pub slice_bounds-self-start : goal.slice_bounds-self-start
slice_bounds-self-start c = hour_inside _ _ _ c.read_record.ensures.0 _ c.in_ok-record.was _ c.length.ensures

pub returns-clause-steps : goal.returns-clause-steps
returns-clause-steps c =
    rw c.operative_of.ensures
    (hour_next c.args.self.now _ c.read_record.ensures.0 _ c.in_ok-record.was _ c.length.ensures _ c.read_record.ensures.1 _ refl)

pub returns-clause-goes : goal.returns-clause-goes
returns-clause-goes c = let step = returns-clause-steps c in search (rules, step)
