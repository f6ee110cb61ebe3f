use Rattle.std.proofs.Common.{rules, tests, ◌≡◌, refl, ap, ◌∙◌, map, get_or, length, arith}
use Rattle.std.proofs.lemmas.List.{get_or-map}
use lib.ListN.{length-map}
use Rattle.zone.specs.declared.record.building_element.Element.{Element}
use Rattle.zone.specs.Format.Decode.{no_element, no_element_hour}
use Rattle.zone.specs.Calls.StartUp.{first_hour}
use Rattle.zone.specs.Physics.Slots.{element}
use Rattle.zone.proofs.Laws.Elements.{element_is}
use Rattle.solver.proofs.Promise.{from_fn_is}
use Rattle.zone.proofs.calls.start_up_parts.first_hours.Goals as goal

pub returns : goal.returns
returns c =
    let es = c.args.elements.now in
    let long : length es ≡ 24 = search rules in
    from_fn_is _ (λ f. f.0.now ≡ es) (λ i. (element es i).first_hour) 24 (λ f i y q few kept k.
    let is : (d : Element) → (get_or es i d).first_hour ≡ (element es i).first_hour =
    λ d. ap (λ (e : Element). e.first_hour) (element_is es i d (omega (arith, few, long))) in
    (search (rules, kept, is), search (rules, tests, kept)))
    (map first_hour es) no_element_hour _ _ refl (length-map es first_hour ∙ long)
    (λ i h. get_or-map first_hour es i no_element no_element_hour (omega (arith, h, long))) c.from_fn.ensures.items
