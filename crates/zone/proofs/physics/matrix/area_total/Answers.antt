use Rattle.std.proofs.Common.{◌∙◌, ap, rules}
use Rattle.solver.specs.Sums.{sum2}
use Rattle.zone.specs.Inner.Assembly.{at}
use Rattle.zone.proofs.Laws.Terms.{numbered}
use Rattle.zone.proofs.physics.matrix.area_total.Goals as goal

pub returns : goal.returns
returns c = c.sum2_of.ensures (at c.args.areas.now) (λ e x h told. search rules) ∙ ap sum2 (numbered c.args.areas.now)
