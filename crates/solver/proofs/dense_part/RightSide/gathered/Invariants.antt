use Rattle.std.proofs.Common.{◌≡◌, replicate, Float}
use Rattle.solver.specs.Repeat.{repeat}
use Rattle.solver.specs.F64.{zero64}
use Rattle.solver.specs.Inner.Reduced.{gathered_inner}
use Rattle.solver.proofs.dense_part.RightSide.gathered.Given as goal

abbrev pub invariant-loop-e : goal.invariant-loop-e
invariant-loop-e g l =
    (term : Float → Float) → ((x y : Float) → goal.F-post g l.f x y → y ≡ term x)
    → repeat l.e l.count.n (gathered_inner term l.self.b l.self.inner) l.v ≡ repeat 0 l.count.n (gathered_inner term l.self.b l.self.inner) (replicate 25 zero64)
