use Rattle.std.proofs.Common.{◌≡◌}
use Rattle.solver.specs.Repeat.{repeat}
use Rattle.zone.specs.Inner.Assembly.{at, couple_row}
use Rattle.zone.proofs.physics.matrix.Surfaces.couple_rows.Given as goal

abbrev pub invariant-loop-i : goal.invariant-loop-i
invariant-loop-i l =
    let row = couple_row l.self.n (at l.self.area) (at l.self.h_ri) (at l.self.h_ci) (at l.self.share) in
    repeat l.i l.self.n row l.m ≡ repeat 0 l.self.n row l.fn.m
