use Rattle.std.proofs.Common.{◌≡◌, ◌-◌, ◌<◌, ◌≤◌, ◌++◌, length, take, arith, refl, rules, replicate, length-set}
use Rattle.std.proofs.lemmas.List.{same_lists, places}
use borrow.Rule.Slice.PartMut.{post_of, put_mid}
use native.Mathlib.Nat.{sub-zero}
use Rattle.zone.specs.Format.Decode.{elements_at, no_element}
use Rattle.zone.specs.Format.Layout.{first_element}
use Rattle.zone.proofs.Laws.Decoded.{elements_next, elements_none}
use Rattle.zone.proofs.Laws.Lists.{one_left, replaced_all, replaced_turn, replaced_end}
use Rattle.zone.proofs.Laws.Structure.{end_whole}
use Rattle.zone.proofs.format.decode.elements_to.Goals as goal

pub loop-slot-init : goal.loop-slot-init
loop-slot-init c =
    let sized : length (take c.args.n (take c.args.n c.args.elements.now ++ (c.fill.new.self ++ post_of c.args.n (24 - c.args.n) c.args.elements.now))) ≡ c.args.n = search rules in
    record { sized = sized; ends = rw (sub-zero c.args.n) c.requires.2; filled = rw (sub-zero c.args.n) (replaced_all _ _ _ sized) }

pub element_at-requires : goal.element_at-requires
element_at-requires c = let l = c.loop-slot in
    let w = end_whole _ _ c.args.n l.slot-index _ _ (omega (arith, c.loop-slot-test.true, l.auto.slot-items, l.invariant.sized)) l.invariant.ends in
    (omega (arith, w.front, c.requires.1), w.kind_valid_lem, omega (arith, w.rest, c.requires.1))

pub size_at-p-requires : goal.size_at-p-requires
size_at-p-requires c = let l = c.loop-slot in
    let w = end_whole _ _ c.args.n l.slot-index _ _ (omega (arith, c.loop-slot-test.true, l.auto.slot-items, l.invariant.sized)) l.invariant.ends in
    omega (arith, w.front, c.requires.1)

pub overflow_add-p : goal.overflow_add-p
overflow_add-p c = let l = c.loop-slot in
    let w = end_whole _ _ c.args.n l.slot-index _ _ (omega (arith, c.loop-slot-test.true, l.auto.slot-items, l.invariant.sized)) l.invariant.ends in
    omega (arith, w.rest, c.size_at-p.ensures, c.requires.1)

pub loop-slot-preserved : goal.loop-slot-preserved
loop-slot-preserved c = let a = c.args in let l = c.loop-slot in
    let more : l.slot-index < a.n = omega (arith, c.loop-slot-test.true, l.auto.slot-items, l.invariant.sized) in
    let w = end_whole _ _ _ _ _ _ more l.invariant.ends in
    record {
      sized = simp length-set l.invariant.sized;
      ends = rw c.size_at-p.ensures w.on;
      filled =
          rw c.size_at-p.ensures
          (replaced_turn _ _ _ _ _ _ _ _ _ _ (omega (arith, l.invariant.sized, more)) refl c.element_at.ensures (one_left a.n l.slot-index more) (elements_next a.s.now l.slot-index a.n more l.p) l.invariant.filled);
    }

pub returns : goal.returns
returns c = let a = c.args in let l = c.loop-slot in
    let none : a.n ≤ l.slot-index = omega (arith, c.loop-slot-test.false, l.auto.slot-items, l.invariant.sized) in
    let read : l.slot-items ≡ elements_at a.s.now first_element a.n = replaced_end _ _ _ _ _ (omega arith) (elements_none a.s.now l.slot-index a.n none _) l.invariant.filled in
    let filled : c.fill.new.self ≡ replicate (24 - a.n) no_element = search (rules, c.fill.ensures, c.no_element.ensures) in
    let put : post_of 0 a.n (put_mid a.n (24 - a.n) a.elements.now c.fill.new.self) ≡ c.fill.new.self = same_lists _ _ (search (rules, places)) (λ k d h. grind (arith, places)) in
    rw (read, put, filled) refl
