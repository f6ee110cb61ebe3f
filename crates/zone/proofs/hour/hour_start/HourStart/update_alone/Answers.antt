use Rattle.zone.proofs.Laws.Kept.{none_kept_in}
use Rattle.zone.proofs.Laws.KeptHour.{kept_update}
use Rattle.zone.proofs.hour.hour_start.HourStart.update_alone.Goals as goal

pub returns : goal.returns
returns c =
    let a = c.args in
    let h = a.self.now in
    kept_update h.coefficients h.zone.now h.temp_prev.now h.hour.now _ _ c.keep_hour.ensures.held (none_kept_in h.coefficients h.zone.now _ c.none-kept.ensures)
    _ c.prepared.ensures a.gains a.ach _ c.update.ensures
