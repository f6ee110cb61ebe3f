use Rattle.std.proofs.Common.{◌≡◌, ◌≤◌, ◌∙◌, ap, ℕ, length, replicate, rules}
use Rattle.solver.specs.F64.{zero64}
use Rattle.solver.specs.FastSolver.{at_most24}
use Rattle.zone.specs.Physics.Slots.{with_terms}
use Rattle.zone.specs.Physics.System.{two_nodes_of}
use Rattle.zone.specs.Inner.Assembled.{h_ri_of}
use Rattle.zone.specs.Inner.KeptMatrix.{chains_in}
use Rattle.zone.specs.Inner.Kept.{h_ci_in}
use Rattle.zone.specs.Inner.Operative.{areas_of}
use Rattle.zone.proofs.Laws.Elements.{element_is}
use Rattle.zone.proofs.Laws.Nodes.{at_most_24_le}
use Rattle.zone.proofs.Laws.Terms.{total_stored}
use Rattle.zone.proofs.Laws.Surfaces.{surfaces, chains_is, couplings_is, convective_is}
use Rattle.zone.proofs.physics.assembly.assemble_elements.Goals as goal

pub returns : goal.returns
unfolding areas_of
returns c =
    let a = c.args in
    let z = a.z.now in
    let n : ℕ = at_most24 z.count in
    let es = z.building_elements in
    let by = h_ci_in a.c a.key.now.directions in
    let counted : c.element_count-n.result ≡ n = c.element_count-n.ensures.0 in
    let h_ri_is = c.with_terms.ensures (h_ri_of es) (λ e x h told. search (rules, element_is))
    ∙ ap (λ (m : ℕ). with_terms m (h_ri_of es) (replicate 24 zero64)) counted in
    let kinds_are = c.with_terms-factors.ensures (two_nodes_of es) (λ e x h told. search (rules, element_is))
    ∙ ap (λ (m : ℕ). with_terms m (two_nodes_of es) a.factors.now.chains.two_nodes) counted in
    let small : n ≤ length (replicate 24 zero64) = at_most_24_le z.count in
    let k = surfaces n es by _ _ _ _ (replicate 24 zero64) _ small c.areas_of-area.ensures h_ri_is (total_stored n _ _ _ _ c.areas_of-area.ensures small (rw counted at c.area_total.ensures)) (rw counted at c.shares-surfaces.ensures)
    c.h_ci.ensures in
    record {
      two_nodes = c.assemble_chains.ensures.others.1 ∙ kinds_are;
      chains = c.assemble_chains.ensures.rows ∙ chains_is n es by _ _ _ _ _ k a.key.now.opens a.key.now.delta_t (chains_in a.factors.now.chains);
      dense = (rw counted at c.couple_rows.ensures) ∙ couplings_is n es by _ _ _ _ _ k _;
      others = search rules;
      sums = (k.total_is, (rw counted at c.convective_sum.ensures) ∙ convective_is n es by _ _ _ _ _ k);
    }
