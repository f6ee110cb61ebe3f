use Rattle.std.proofs.Common.{◌≡◌}
use Rattle.solver.specs.Repeat.{repeat}
use Rattle.zone.specs.Physics.Slots.{set_slot}
use Rattle.zone.proofs.physics.slots.set_slots.Given as goal

abbrev pub invariant-loop-j : goal.invariant-loop-j
invariant-loop-j l =
    repeat l.j 5 (set_slot l.e l.r) l.d ≡ repeat 0 5 (set_slot l.e l.r) l.fn.d
