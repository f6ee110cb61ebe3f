use Rattle.std.proofs.Common.{refl}
use Rattle.zone.proofs.Laws.KeptHour.{held_hour}
use Rattle.zone.proofs.hour.kept.KeptMatrix.prepared.Goals as goal

-- back from the last call to the first: the areas, the reduction, the right sides, the hour's numbers
pub returns : goal.returns
returns c =
    let a = c.args in
    let h = a.start.now in
    rw c.of-control.ensures
    (held_hour h.coefficients h.zone.now h.temp_prev.now h.hour.now a.self.now c.requires _ _ refl c.delta_t_of-delta_t.ensures
    _ c.assemble_sides.ensures _ c.reduce_base.ensures _ c.areas_of.ensures)
