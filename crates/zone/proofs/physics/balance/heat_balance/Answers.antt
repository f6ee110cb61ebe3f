use Rattle.std.proofs.Common.{refl, ◌∙◌}
use Rattle.solver.specs.FastSolver.{at_most24}
use Rattle.zone.specs.Inner.FabricSums.{external_boundary_from}
use Rattle.zone.specs.Inner.ConvectiveSums.{internal_boundary_from}
use Rattle.zone.specs.Physics.Slots.{air}
use Rattle.zone.specs.Physics.System.{c_int}
use Rattle.zone.specs.Physics.HeatBalance.{air_node, external_boundary, heat_balance}
use Rattle.zone.proofs.Laws.Balance.{external_is, internal_is}
use Rattle.zone.proofs.physics.balance.heat_balance.Goals as goal

-- boundary by boundary
pub returns : goal.returns
unfolding heat_balance
returns c =
    let a = c.args in
    let z = a.z.now in
    let hour = a.hour.now in
    let x = a.vector_x.now in
    let g = a.gains.gains_heat_cool in
    let f = a.gains.f_hc_c in
    let node = c.air_node-air.result in
    let air_is = c.air_node-air.ensures ∙ (λ i. air_node a.c (c_int a.c z) (c.calc_vent_heat_transfer_coeff-h_ve.ensures i) z.tb_heat_trans_coeff hour a.delta_t g f (air a.temp_prev.now) (air x)) in
    let internal = c.internal_boundary.ensures
    ∙ (λ i. internal_boundary_from a.c (c.convective_sums-convective.ensures i) hour g f)
    ∙ internal_is a.c z a.temp_prev.now x hour g f (at_most24 z.count) refl in
    let external = c.external_boundary.ensures
    ∙ (λ i. external_boundary_from (c.fabric_sums-sums.ensures i) node hour g)
    ∙ external_is z hour x (at_most24 z.count) node g refl
    ∙ (λ i. external_boundary z hour x (air_is i) g) in
    λ i. record { air_node = air_is i; internal_boundary = internal i; external_boundary = external i }
