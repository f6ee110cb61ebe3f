use Rattle.std.proofs.Common.{sym, subst, rules, tests}
use Rattle.std.proofs.lemmas.Iterator.Splits.{YieldsList-from_slice_split}
use Rattle.weather.specs.Inner.Decimals.{Reads}
use Rattle.weather.proofs.Laws.Unsigned.{whole_good, whole_wrong, parts_good, not_whole, not_fraction, third}
use Rattle.weather.proofs.decimal.read_unsigned.Goals as goal

pub returns-in-Some-None-default : goal.returns-in-Some-None-default
returns-in-Some-None-default c =
    let a = c.in-Some-None-default in
    subst (λ o. Reads o c.of_digits.result)
    (whole_good c.args.minus c.args.bytes.now
    (YieldsList-from_slice_split _ _ c.args.bytes.now c.split-parts.ensures.rest c.split-parts.ensures.done c.split-parts.ensures.closure (λ x r q k. search (rules, tests)))
    c.next.result c.next-2.result c.next-3.result c.next.new.self c.next-2.new.self c.next-3.new.self c.next.ensures.steps c.next-2.ensures.steps c.next-3.ensures.steps
    a.whole a.is-0 a.is-1 (sym c.if-is_digits.ensures))
    c.of_digits.ensures

pub returns-in-Some-Some-None : goal.returns-in-Some-Some-None
returns-in-Some-Some-None c =
    let a = c.in-Some-Some-None in
    subst (λ o. Reads o c.of_digits-in-Some-Some-None.result)
    (parts_good c.args.minus c.args.bytes.now
    (YieldsList-from_slice_split _ _ c.args.bytes.now c.split-parts.ensures.rest c.split-parts.ensures.done c.split-parts.ensures.closure (λ x r q k. search (rules, tests)))
    c.next.result c.next-2.result c.next-3.result c.next.new.self c.next-2.new.self c.next-3.new.self c.next.ensures.steps c.next-2.ensures.steps c.next-3.ensures.steps
    a.whole a.is-0 a.fraction a.is-1 a.is-2 (sym c.if-is_digits-2.ensures) (sym c.if-is_digits-3.ensures))
    c.of_digits-in-Some-Some-None.ensures

pub returns-in_default : goal.returns-in_default
returns-in_default c =
    let a = c.in-Some-None-default in
    whole_wrong c.args.minus c.args.bytes.now
    (YieldsList-from_slice_split _ _ c.args.bytes.now c.split-parts.ensures.rest c.split-parts.ensures.done c.split-parts.ensures.closure (λ x r q k. search (rules, tests)))
    c.next.result c.next-2.result c.next-3.result c.next.new.self c.next-2.new.self c.next-3.new.self c.next.ensures.steps c.next-2.ensures.steps c.next-3.ensures.steps
    a.whole a.is-0 a.is-1 (sym c.if-is_digits.ensures)

pub returns-in_default-2 : goal.returns-in_default-2
returns-in_default-2 c =
    let a = c.in-Some-Some-None in
    not_fraction c.args.minus c.args.bytes.now
    (YieldsList-from_slice_split _ _ c.args.bytes.now c.split-parts.ensures.rest c.split-parts.ensures.done c.split-parts.ensures.closure (λ x r q k. search (rules, tests)))
    c.next.result c.next-2.result c.next-3.result c.next.new.self c.next-2.new.self c.next-3.new.self c.next.ensures.steps c.next-2.ensures.steps c.next-3.ensures.steps
    a.whole a.is-0 a.fraction a.is-1 a.is-2 (sym c.if-is_digits-2.ensures) (sym c.if-is_digits-3.ensures)

pub returns-in_default-3 : goal.returns-in_default-3
returns-in_default-3 c =
    let a = c.in-Some-Some-None in
    not_whole c.args.minus c.args.bytes.now
    (YieldsList-from_slice_split _ _ c.args.bytes.now c.split-parts.ensures.rest c.split-parts.ensures.done c.split-parts.ensures.closure (λ x r q k. search (rules, tests)))
    c.next.result c.next-2.result c.next-3.result c.next.new.self c.next-2.new.self c.next-3.new.self c.next.ensures.steps c.next-2.ensures.steps c.next-3.ensures.steps
    a.whole a.is-0 a.fraction a.is-1 a.is-2 (sym c.if-is_digits-2.ensures)

pub returns-in_default-4 : goal.returns-in_default-4
returns-in_default-4 c =
    let a = c.in_default in
    third c.args.minus c.args.bytes.now
    (YieldsList-from_slice_split _ _ c.args.bytes.now c.split-parts.ensures.rest c.split-parts.ensures.done c.split-parts.ensures.closure (λ x r q k. search (rules, tests)))
    c.next.result c.next-2.result c.next-3.result c.next.new.self c.next-2.new.self c.next-3.new.self c.next.ensures.steps c.next-2.ensures.steps c.next-3.ensures.steps
    a.field-0-0 a.is-0 a.field-0-1 a.is-1 a.field-0-2 a.is-2
