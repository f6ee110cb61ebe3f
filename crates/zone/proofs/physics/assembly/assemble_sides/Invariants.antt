use Rattle.std.proofs.Common.{◌≡◌}
use Rattle.solver.specs.Repeat.{repeat}
use Rattle.zone.specs.Inner.Assembly.{element_right_sides}
use Rattle.zone.proofs.physics.assembly.assemble_sides.Given as goal

abbrev pub invariant-loop-e : goal.invariant-loop-e
invariant-loop-e l =
    let turn = element_right_sides l.z.building_elements l.h.elements l.delta_t l.t in
    repeat l.e l.n turn l.b ≡ repeat 0 l.n turn l.fn.b
