use Rattle.std.proofs.Common.{sym, ◌∙◌}
use Rattle.zone.proofs.Laws.Counts.{min_24}
use Rattle.zone.proofs.Laws.KeptMatrix.{keeps_held, keeps_anew}
use Rattle.zone.proofs.hour.kept.KeptMatrix.keep_factors.Goals as goal

pub returns-then-holds-clause-held : goal.returns-then-holds-clause-held
returns-then-holds-clause-held c =
    let a = c.args in
    keeps_held a.c a.z.now a.key.now.directions a.key.now.opens a.key.now.delta_t a.self.now _ (c.element_count-n.ensures.0 ∙ sym (min_24 a.z.now.count)) _ c.holds.ensures c.if-holds.true

-- back from the factored columns to the emptied arrays
pub returns-clause-held : goal.returns-clause-held
returns-clause-held c =
    let a = c.args in
    let e = c.assemble_elements-self.ensures in
    keeps_anew a.c a.z.now a.key.now.directions a.key.now.opens a.key.now.delta_t a.self.now _ (c.element_count-n.ensures.0 ∙ sym (min_24 a.z.now.count)) _ c.holds.ensures c.if-holds.false
    c.empty.new.self.factors c.assemble_elements-self.new.factors c.factor_columns.new.self c.empty.ensures
    e.two_nodes e.chains e.dense e.others c.assemble_elements-self.result e.sums c.last_column-self.result c.last_column-self.ensures c.factor_columns.ensures
