use Rattle.std.proofs.Common.{◌≡◌, ◌+◌, arith, refl, length}
use native.Mathlib.Nat.{sub-zero}
use Rattle.zone.proofs.Laws.Decoded.{floats_next, floats_none}
use Rattle.zone.proofs.Laws.Lists.{one_left, replaced_all, replaced_turn, replaced_end}
use Rattle.zone.proofs.format.decode.floats_to.Goals as goal

pub loop-i-init : goal.loop-i-init
loop-i-init c =
    let first : c.args.at + 0 ≡ c.args.at = omega arith in
    rw (sub-zero (length c.args.out.now), first) (replaced_all c.args.out.now _ _ refl)

pub loop-i-preserved : goal.loop-i-preserved
loop-i-preserved c = let l = c.loop-i in
    replaced_turn _ _ _ _ _ _ _ _ _ _ (omega (arith, l.auto.out, c.loop-i-test.true)) refl c.read_f64_be.ensures (one_left _ l.i c.loop-i-test.true) (floats_next c.args.s.now l.i _ c.loop-i-test.true c.args.at) l.invariant

pub returns : goal.returns
returns c = let l = c.loop-i in
    replaced_end _ _ _ _ _ (omega arith) (floats_none c.args.s.now l.i _ c.loop-i-test.false _) l.invariant
