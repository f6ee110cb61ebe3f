use Rattle.std.proofs.Common.{◌≡◌, ◌+◌, ℕ, Bool, drop, Bor}
use Rattle.zone.specs.Check.ZoneTest.{all_required}
use Rattle.zone.proofs.check.zone_tests.all_required.Given as goal

-- the test of those that are left is the test of all
abbrev pub invariant-loop-i : goal.invariant-loop-i
invariant-loop-i g l =
    (test : _ → Bool) (number : ℕ) → ((x : Bor _) (b : Bool) → goal.F-post g l.passes x b → b ≡ test x.now)
    → all_required test number (drop l.i l.items) (l.i + 1) ≡ all_required test number l.items 1
