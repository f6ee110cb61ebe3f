use Rattle.zone.specs.Record.BuildingElement.{standard_coefficients}
use Rattle.std.proofs.Common.{sym, ◌∙◌}
use Rattle.zone.proofs.Laws.Counts.{min_24}
use Rattle.zone.proofs.Laws.Why.{temperatures_of_lem}
use Rattle.zone.proofs.hour.free.zone_temperatures_of.Goals as goal

pub returns : goal.returns
returns c =
    let a = c.args in
    temperatures_of_lem standard_coefficients a.z.now a.t.now _ (c.element_count.ensures.0 ∙ sym (min_24 a.z.now.count)) _ c.areas_of-area.ensures _ c.area_total-total.ensures _ (rw c.of.ensures at c.zone_temperatures.ensures)
