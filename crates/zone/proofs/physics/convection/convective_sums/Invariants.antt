use Rattle.std.proofs.Common.{◌≡◌}
use Rattle.solver.specs.Repeat.{repeat}
use Rattle.zone.specs.Inner.ConvectiveSums.{add_loss_at}
use Rattle.zone.proofs.physics.convection.convective_sums.Given as goal

abbrev pub invariant-loop-e : goal.invariant-loop-e
invariant-loop-e l =
    let add = add_loss_at l.c l.z.building_elements l.temp_prev l.vector_x in
    repeat l.e l.n add l.sums ≡ repeat 0 l.n add l.initial.sums
