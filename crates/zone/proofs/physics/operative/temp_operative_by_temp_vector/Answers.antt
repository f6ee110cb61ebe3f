use Rattle.std.proofs.Common.{◌∙◌, ap, rules, ℕ, Float}
use Rattle.solver.specs.F64.{◌/ᶠ◌}
use Rattle.solver.specs.Sums.{sum2, terms}
use Rattle.zone.specs.Physics.Slots.{air}
use Rattle.zone.specs.Physics.TempOperative.{mean_of}
use Rattle.zone.specs.Inner.Assembly.{at}
use Rattle.zone.specs.Inner.Operative.{radiant_at, temp_operative_of}
use Rattle.zone.proofs.Laws.Counts.{min_24}
use Rattle.zone.proofs.physics.operative.temp_operative_by_temp_vector.Goals as goal

pub returns : goal.returns
unfolding temp_operative_of
returns c =
    let a = c.args in
    let term = radiant_at (at a.area.now) a.t.now in
    c.mean_of.ensures
    ∙ ap (λ (s : Float). mean_of (air a.t.now) (s /ᶠ a.area_el_total))
    (c.sum2_of.ensures term (λ e x h told. search rules) ∙ ap (λ (n : ℕ). sum2 (terms 0 n term)) (c.min-n.ensures ∙ min_24 a.count))
