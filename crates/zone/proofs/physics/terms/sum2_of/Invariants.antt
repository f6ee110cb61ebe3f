use Rattle.std.proofs.Common.{◌≡◌, ℕ, ◌<◌, Float}
use Rattle.solver.specs.Sums.{sum2_add_all, terms}
use Rattle.zone.proofs.physics.terms.sum2_of.Given as goal

abbrev pub invariant-loop-e : goal.invariant-loop-e
invariant-loop-e g l =
    (term : ℕ → Float) → ((e : ℕ) (x : Float) → e < l.n → goal.F-post g l.f e x → x ≡ term e) → sum2_add_all l.total (terms l.e l.n term) ≡ sum2_add_all l.initial.total (terms 0 l.n term)
