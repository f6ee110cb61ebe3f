-- An array's element at a place that it has, whatever a read past its end would give.
use Rattle.std.proofs.Common.{◌≡◌, ℕ, ◌<◌, List, length, get_or}
use Rattle.std.proofs.lemmas.List.{get_or_default}
use Rattle.zone.specs.declared.record.building_element.Element.{Element}
use Rattle.zone.specs.declared.record.building_element.ElementHour.{ElementHour}
use Rattle.zone.specs.Format.Decode.{no_element, no_element_hour}
use Rattle.zone.specs.Physics.Slots.{element, element_hour}

pub element_is : (es : List Element) (e : ℕ) (d : Element) → e < length es → get_or es e d ≡ element es e
element_is es e d h = get_or_default es e d no_element h

pub element_hour_is : (hours : List ElementHour) (e : ℕ) (d : ElementHour) → e < length hours → get_or hours e d ≡ element_hour hours e
element_hour_is hours e d h = get_or_default hours e d no_element_hour h

-- both, for the attribute of a function that reads elements of a zone and of an hour
pub ruleset elements_are = (element_is, element_hour_is)
