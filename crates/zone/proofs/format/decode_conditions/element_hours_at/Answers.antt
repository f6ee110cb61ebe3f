use Rattle.std.proofs.Common.{◌≡◌, ◌<◌, ◌≤◌, length, take, replicate, arith, refl, rules, length-set}
use Rattle.std.proofs.Math.Nat.{sub-zero}
use Rattle.std.proofs.lemmas.List.{drop-replicate}
use Rattle.zone.specs.Format.Layout.{first_element_hour}
use Rattle.zone.specs.Format.Decode.{no_element_hour}
use Rattle.zone.specs.Format.Conditions.{element_hours_at}
use Rattle.zone.proofs.Laws.Decoded.{hours_next, hours_none}
use Rattle.zone.proofs.Laws.Lists.{one_left, replaced_all, replaced_turn, replaced_end}
use Rattle.zone.proofs.format.decode_conditions.element_hours_at.Goals as goal

pub loop-i-init : goal.loop-i-init
loop-i-init c = let n = c.args.n in
    let sized : length (take n (replicate 24 c.no_element_hour-hours.result)) ≡ n = search rules in
    record { sized = sized; filled = rw (sub-zero n) (replaced_all _ _ _ sized) }

pub loop-i-preserved : goal.loop-i-preserved
loop-i-preserved c = let n = c.args.n in let l = c.loop-i in
    let more : l.i < n = omega (arith, c.loop-i-test.true, l.auto.hour-items, l.invariant.sized) in
    record {
      sized = simp length-set l.invariant.sized;
      filled =
          replaced_turn _ _ _ _ _ _ _ _ _ _ (omega (arith, l.invariant.sized, more)) refl c.element_hour_at.ensures (one_left n l.i more) (hours_next c.args.s.now l.i n more first_element_hour) l.invariant.filled;
    }

pub returns : goal.returns
returns c = let n = c.args.n in let l = c.loop-i in
    let none : n ≤ l.i = omega (arith, c.loop-i-test.false, l.auto.hour-items, l.invariant.sized) in
    let read : l.hour-items ≡ element_hours_at c.args.s.now first_element_hour n = replaced_end _ _ _ _ _ (omega arith) (hours_none c.args.s.now l.i n none _) l.invariant.filled in
    rw (read, c.no_element_hour-hours.ensures, drop-replicate n 24 no_element_hour) refl
