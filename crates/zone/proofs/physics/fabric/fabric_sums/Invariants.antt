use Rattle.std.proofs.Common.{◌≡◌}
use Rattle.solver.specs.Repeat.{repeat}
use Rattle.zone.specs.Inner.FabricSums.{add_element_at}
use Rattle.zone.proofs.physics.fabric.fabric_sums.Given as goal

abbrev pub invariant-loop-e : goal.invariant-loop-e
invariant-loop-e l =
    let add = add_element_at l.z.building_elements l.hour.elements l.vector_x in
    repeat l.e l.n add l.sums ≡ repeat 0 l.n add l.initial.sums
