use Rattle.zone.proofs.Laws.Kept.{none_kept_in}
use Rattle.zone.proofs.Laws.KeptHour.{kept_demand}
use Rattle.zone.proofs.hour.hour_start.HourStart.demand_alone.Goals as goal

pub returns : goal.returns
returns c =
    let a = c.args in
    let h = a.self.now in
    kept_demand h.coefficients h.zone.now h.temp_prev.now h.hour.now _ _ c.keep_hour.ensures.held (none_kept_in h.coefficients h.zone.now _ c.none-kept.ensures)
    _ c.prepared.ensures a.meeting a.after.now _ c.demand_met.ensures
