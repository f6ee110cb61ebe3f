use Rattle.std.proofs.Common.{rules, tests, replicate, ◌≡◌, refl, ap, get_or, length, arith}
use Rattle.zone.specs.Inner.Kept.{treatments_open_at}
use Rattle.zone.specs.declared.record.building_element.ElementHour.{ElementHour}
use Rattle.zone.proofs.Laws.Elements.{element_hour_is}
use Rattle.zone.proofs.Laws.FromFn.{from_fn_terms}
use Rattle.zone.proofs.hour.hour_kept.opens_of.Goals as goal

pub returns : goal.returns
returns c =
    let es = c.args.h.now.elements in
    let long : length es ≡ 24 = search rules in
    from_fn_terms _ (λ f. f.0.now ≡ c.args.h.now) (treatments_open_at es) 24 (λ f i y q few kept k.
    let is : (d : ElementHour) → (get_or es i d).treatments_open ≡ treatments_open_at es i =
    λ d. ap (λ (e : ElementHour). e.treatments_open) (element_hour_is es i d (omega (arith, few, long))) in
    (search (rules, kept, is), search (rules, tests, kept))) (replicate 24 0) 0 _ _ refl refl c.from_fn.ensures.items
