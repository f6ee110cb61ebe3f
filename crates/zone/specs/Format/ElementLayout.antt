-- The kinds of elements by their numbers, and what a kind says of the element's bytes.
-- Specification, Kinds and nodes; Head.
use Rattle.std.specs.Prelude.{ℕ, ◌+◌, ◌*◌, Bool, cond, ◌&&◌, List, [], ◌∷◌, get_or, leb, eqb}
use Rattle.zone.specs.Record.BuildingElement.{is_two_nodes}
use Rattle.zone.specs.Format.Bytes.{float_size}
use Rattle.zone.specs.Format.Layout.{five_nodes_size, transparent_size}
use Rattle.zone.specs.declared.record.building_element.Element.{Element}
use Rattle.zone.specs.declared.record.building_element.Kind.{Kind}
use Rattle.zone.specs.declared.record.building_element.Kind.TheVariants.{Opaque, AdjacentConditionedSpace, AdjacentUnconditionedSpaceSimple, Ground, Transparent, PartyWall}

-- kinds 0 to 5, in the order of the original's enum; a number above 5, which is refused with 4, as 5
unfoldable pub kind_of : ℕ → Kind
kind_of k =
    cond (eqb k 0) Opaque
    (cond (eqb k 1) AdjacentConditionedSpace
    (cond (eqb k 2) AdjacentUnconditionedSpaceSimple (cond (eqb k 3) Ground (cond (eqb k 4) Transparent PartyWall))))

-- an element has a k_pli for each node; how many h_pli, and at most how many treatments
abbrev pub h_count : Kind → ℕ
h_count k = cond (is_two_nodes k) 1 4

abbrev pub max_treatments : Kind → ℕ
max_treatments k = cond (is_two_nodes k) 4 0

abbrev pub treatments_valid : Kind → (treatments : ℕ) → Bool
treatments_valid k t = leb t (max_treatments k)

-- an element's bytes in a head: 171 of one with five nodes, 123 + 8t of a Transparent with t treatments
abbrev pub element_size : Kind → (treatments : ℕ) → ℕ
element_size k t = cond (is_two_nodes k) (transparent_size + float_size * t) five_nodes_size

-- the bytes of elements, one behind the other
unfoldable pub sizes : List Element → ℕ
sizes [] = 0
sizes (e ∷ es) = element_size e.kind e.treatments + sizes es

-- the kind and treatment bytes of an element at p
abbrev pub kind_at : List ℕ → (p : ℕ) → Kind
kind_at bs p = kind_of (get_or bs p 0)

abbrev pub treatments_at : List ℕ → (p : ℕ) → ℕ
treatments_at bs p = get_or bs (p + 1) 0

abbrev pub kind_valid_at : List ℕ → (p : ℕ) → Bool
kind_valid_at bs p = leb (get_or bs p 0) 5 && treatments_valid (kind_at bs p) (treatments_at bs p)

abbrev pub size_at : List ℕ → (p : ℕ) → ℕ
size_at bs p = element_size (kind_at bs p) (treatments_at bs p)
