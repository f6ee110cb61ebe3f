use Rattle.std.proofs.Common.{◌≡◌, ℕ, ◌<◌}
use Rattle.solver.specs.Repeat.{repeat}
use Rattle.zone.specs.Physics.Slots.{set_term}
use Rattle.zone.proofs.physics.terms.with_terms.Given as goal

abbrev pub invariant-loop-e : goal.invariant-loop-e
invariant-loop-e g l =
    (term : ℕ → _) → ((e : ℕ) (x : _) → e < l.n → goal.F-post g l.f e x → x ≡ term e) → repeat l.e l.n (set_term term) l.a ≡ repeat 0 l.n (set_term term) l.fn.a
