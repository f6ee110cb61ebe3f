-- What stands in slots (solver specs/Chain.antt): the air, surfaces, an element's five; and the zone's elements by their numbers.
-- Specification, Which coefficients are kept.
use Rattle.std.specs.Prelude.{ℕ, ◌+◌, ◌*◌, Bool, List, [], ◌∷◌, get_or, set, Float}
use Rattle.std.specs.Float.{nan}
use Rattle.solver.specs.Repeat.{repeat}
use Rattle.solver.specs.Chain.{outer_slot}
use Rattle.zone.specs.declared.record.building_element.Element.{Element}
use Rattle.zone.specs.declared.record.building_element.ElementHour.{ElementHour}
use Rattle.zone.specs.Format.Decode.{no_element, no_element_hour}

abbrev pub air : List Float → Float
air t = get_or t 120 nan

abbrev pub inner_surface : List Float → ℕ → Float
inner_surface t e = get_or t (5 * e + 4) nan

abbrev pub outer_surface : List Bool → List Float → ℕ → Float
outer_surface two_nodes t e = get_or t (outer_slot two_nodes e) nan

-- what stands in the five slots of an element
abbrev pub element_slots : List Float → ℕ → List Float
element_slots t e =
    get_or t (5 * e) nan ∷ get_or t (5 * e + 1) nan ∷ get_or t (5 * e + 2) nan ∷ get_or t (5 * e + 3) nan ∷ get_or t (5 * e + 4) nan ∷ []

-- entry j of r goes to place j of the five slots of element e
abbrev pub set_slot : ℕ → List Float → ℕ → List Float → List Float
set_slot e r j d = set d (5 * e + j) (get_or r j nan)

-- all five entries
unfoldable pub set_slots : ℕ → List Float → List Float → List Float
set_slots e r d = repeat 0 5 (set_slot e r) d

-- those of each of the first n elements
unfoldable pub in_slots : ℕ → (ℕ → List Float) → List Float → List Float
in_slots n r d = repeat 0 n (λ e. set_slots e (r e)) d

-- element e of the zone, and its part of the hour
abbrev pub element : List Element → ℕ → Element
element es e = get_or es e no_element

abbrev pub element_hour : List ElementHour → ℕ → ElementHour
element_hour hours e = get_or hours e no_element_hour

module _ {A : Type 0} where
  abbrev pub set_term : (ℕ → A) → ℕ → List A → List A
  set_term f e a = set a e (f e)

  -- a list whose first n places hold f 0, f 1, .. f (n - 1)
  unfoldable pub with_terms : ℕ → (ℕ → A) → List A → List A
  with_terms n f a = repeat 0 n (set_term f) a
