use Rattle.zone.proofs.Laws.Why.{why_answered}
use Rattle.zone.proofs.hour.hour_start.HourStart.why.Goals as goal

pub returns : goal.returns
returns c = why_answered _ _ _ _ _ _ _ c.in_ok-d.ensures _ _ c.in_ok-reason.ensures c.load_asked.ensures
