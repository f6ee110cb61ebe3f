use Rattle.std.proofs.Common.{◌∙◌}
use Rattle.zone.proofs.Laws.OperativeNodes.{operative_of_nodes}
use Rattle.zone.proofs.physics.operative.operative_of.Goals as goal

pub returns : goal.returns
returns c =
    let a = c.args in
    c.mean_of.ensures
    ∙ operative_of_nodes a.z.now a.temps.now
    _ c.areas_of.ensures
    _ (c.element_count.ensures.0)
    _ c.area_total-area_el_total.ensures
    _ c.radiant_sum_of_nodes-radiant.ensures.0 _ c.radiant_sum_of_nodes-radiant.ensures.1
