use Rattle.std.proofs.Common.{◌≡◌}
use Rattle.solver.specs.Repeat.{repeat}
use Rattle.zone.specs.Inner.Assembly.{at, couple}
use Rattle.zone.proofs.physics.matrix.Surfaces.couplings.Given as goal

abbrev pub invariant-loop-k : goal.invariant-loop-k
invariant-loop-k l =
    repeat l.k l.self.n (couple (at l.self.share) (at l.self.h_ri l.i) l.i) l.m ≡ repeat 0 l.self.n (couple (at l.self.share) (at l.self.h_ri l.i) l.i) l.fn.m
