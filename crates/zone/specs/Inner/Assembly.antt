-- The coefficients and the right sides of all elements, as the code assembles them: into arrays that are given, and with what belongs to an element, its
-- area, h_ri, h_ci and its share of the total area, as a function of the element's number.
use Rattle.std.specs.Prelude.{ℕ, ◌+◌, ◌*◌, List, get_or, set, Float}
use Rattle.std.specs.Float.{nan}
use Rattle.std.specs.Float.Ieee.{neg}
use Rattle.solver.specs.F64.{◌+ᶠ◌, ◌-ᶠ◌, ◌*ᶠ◌, ◌/ᶠ◌, zero64}
use Rattle.solver.specs.Repeat.{repeat}
use Rattle.solver.specs.Rows.{set_entry}
use Rattle.zone.specs.declared.record.building_element.Element.{Element}
use Rattle.zone.specs.declared.record.building_element.ElementHour.{ElementHour}
use Rattle.zone.specs.declared.physics.equations.Rows.{Rows}
use Rattle.zone.specs.Physics.Slots.{inner_surface, element_slots, set_slots, element, element_hour}
use Rattle.zone.specs.Physics.Equations.{rows_of, right_sides_of}
use Rattle.zone.specs.Physics.Equations as Equations

-- the number of an array that belongs to element e
abbrev pub at : List Float → ℕ → Float
at a e = get_or a e nan

-- its share of the total area
abbrev pub share_by : (area : ℕ → Float) (total : Float) → ℕ → Float
share_by area total e = area e /ᶠ total

-- its term of the zone's convective sum
abbrev pub convective_by : (area h_ci : ℕ → Float) → ℕ → Float
convective_by area h_ci e = area e *ᶠ h_ci e

-- the coefficients of each slot's own temperature, of the next slot's and of the previous slot's
pub data Chains : Type 0 where
  chains : (diag next prev : List Float) → Chains

-- the rows of one element, as the code has them
abbrev pub rows_in : Rows → Equations.Rows
rows_in r = record { diag = r.diag; next = r.next; prev = r.prev }

unfoldable pub set_rows : ℕ → Equations.Rows → Chains → Chains
set_rows e r (chains diag next prev) =
    chains (set_slots e r.diag diag) (set_slots e r.next next) (set_slots e r.prev prev)

module _ (es : List Element) (hours : List ElementHour) (delta_t : Float) where
  -- (41), (40), (39) of element e
  unfoldable pub element_rows : (h_ci share : ℕ → Float) → ℕ → Chains → Chains
  element_rows h_ci share e s =
      set_rows e (rows_of (element es e) delta_t (element_hour hours e).treatments_open (h_ci e) (share e)) s

  unfoldable pub element_right_sides : List Float → ℕ → List Float → List Float
  element_right_sides t e b = set_slots e (right_sides_of (element es e) delta_t (element_hour hours e) (element_slots t e)) b

-- (39), the couplings between inner surfaces: 0 less the share of element k. (On the diagonal `inner_diagonal` stands, once the chain is eliminated.)
abbrev pub couple : (share : ℕ → Float) (h_ri : Float) → ℕ → ℕ → List Float → List Float
couple share h_ri i k m = set_entry i k (zero64 -ᶠ share k *ᶠ h_ri) m

-- the row of element i: its couplings, the zone column of (39) and its entry in the zone row (38)
unfoldable pub couple_row : ℕ → (area h_ri h_ci share : ℕ → Float) → ℕ → List Float → List Float
couple_row n area h_ri h_ci share i m =
    set_entry n i (neg (area i) *ᶠ h_ci i)
    (set_entry i n (neg (h_ci i)) (repeat 0 n (couple share (h_ri i) i) m))

-- the gains of each m2 of inner surface, added to the right side of (39)
abbrev pub add_gains : Float → ℕ → List Float → List Float
add_gains x e b = set b (5 * e + 4) (inner_surface b e +ᶠ x)

unfoldable pub with_gains : ℕ → Float → List Float → List Float
with_gains n x b = repeat 0 n (add_gains x) b
