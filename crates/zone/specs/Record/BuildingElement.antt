-- What is worked out from one building element alone.
-- Specification, Direction of heat flow and h_ci; Window treatments and h_pli; Constants and capacity; Kinds and nodes.
use Rattle.std.specs.Prelude.{ℕ, ◌+◌, ◌/◌, ◌%◌, Bool, true, false, cond, not, ◌&&◌, ◌||◌, List, [], ◌∷◌, take, eqb, Float}
use Rattle.std.specs.Float.Ieee.{lt, le}
use Rattle.solver.specs.F64.{◌+ᶠ◌, ◌/ᶠ◌, one64, decimal}
use Rattle.zone.specs.declared.record.building_element.Kind.{Kind}
use Rattle.zone.specs.declared.record.building_element.Kind.TheVariants.{Opaque, AdjacentConditionedSpace, AdjacentUnconditionedSpaceSimple, Ground, Transparent, PartyWall}
use Rattle.zone.specs.declared.record.building_element.Element.{Element}
use Rattle.zone.specs.declared.record.building_element.Coefficients.{Coefficients}
use Rattle.zone.specs.declared.record.building_element.HeatFlowDirection.{HeatFlowDirection}
use Rattle.zone.specs.declared.record.building_element.HeatFlowDirection.TheVariants.{Horizontal, Upwards, Downwards}
use Rattle.zone.specs.declared.record.building_element.SurfaceConvection.{SurfaceConvection}
use Rattle.zone.specs.declared.record.zone_record.Zone.{Zone}

-- f_int_c, f_sol_c: BS EN ISO 52016-1:2017, Table B.11; k_m_int: Table B.17; the three h_ci: BS EN ISO 13789:2017, Table 8; the pitches that part
-- ceilings, walls and floors: the original's PITCH_LIMIT_HORIZ_CEILING and PITCH_LIMIT_HORIZ_FLOOR
unfoldable pub standard_coefficients : Coefficients
standard_coefficients =
    record {
      f_int_c = decimal 4 1;
      f_sol_c = decimal 1 1;
      k_m_int = decimal 10000 0;
      h_ci_horizontal = decimal 25 1;
      h_ci_upwards = decimal 50 1;
      h_ci_downwards = decimal 7 1;
      pitch_limit_horiz_ceiling = decimal 60 0;
      pitch_limit_horiz_floor = decimal 120 0;
    }

-- the direction of heat flow at an inner surface; air and surface are those from before the step. Horizontal between the two pitches, both included; a
-- ceiling (below the first) is upwards unless the air is colder than the surface; a floor (above the second) is upwards only if it is; else downwards
unfoldable pub heat_flow_direction : Coefficients → (pitch air surface : Float) → HeatFlowDirection
heat_flow_direction c pitch air surface =
    let inwards = lt air surface in
    let is_floor = lt c.pitch_limit_horiz_floor pitch in
    let is_ceiling = lt pitch c.pitch_limit_horiz_ceiling in
    cond (le c.pitch_limit_horiz_ceiling pitch && le pitch c.pitch_limit_horiz_floor) Horizontal
    (cond (is_floor && inwards || is_ceiling && not inwards) Upwards Downwards)

abbrev pub direction_code : HeatFlowDirection → ℕ
direction_code Horizontal = 0
direction_code Upwards = 1
direction_code Downwards = 2

abbrev pub is_direction : (direction d : HeatFlowDirection) → Bool
is_direction direction d = eqb (direction_code d) (direction_code direction)

-- h_ci, in W / (m2.K), of a direction
abbrev pub h_ci_of : Coefficients → HeatFlowDirection → Float
h_ci_of c Horizontal = c.h_ci_horizontal
h_ci_of c Upwards = c.h_ci_upwards
h_ci_of c Downwards = c.h_ci_downwards

-- the coefficient comes with its direction: one test tells both
abbrev pub surface_convection : Coefficients → (pitch air surface : Float) → SurfaceConvection
surface_convection c pitch air surface =
    let direction = heat_flow_direction c pitch air surface in
    record { direction = direction; h_ci = h_ci_of c direction }

unfoldable pub h_ci : Coefficients → (pitch air surface : Float) → Float
h_ci c pitch air surface = (surface_convection c pitch air surface).h_ci

-- the `delta_r` of the treatments whose bit is 0, added to r in order, bit 0 first
unfoldable pub add_closed : (bits : ℕ) (r : Float) → List Float → Float
add_closed bits r [] = r
add_closed bits r (d ∷ ds) = add_closed (bits / 2) (cond (eqb (bits % 2) 0) (r +ᶠ d) r) ds

-- h_pli of a Transparent: 1 / (1 / h + the closed treatments' `delta_r`), by both reciprocals also where none is closed
unfoldable pub h_pli_transparent : Float → List Float → (treatments bits : ℕ) → Float
h_pli_transparent h delta_r treatments bits = one64 /ᶠ add_closed bits (one64 /ᶠ h) (take treatments delta_r)

-- a Transparent has a node at each surface only
abbrev pub is_two_nodes : Kind → Bool
is_two_nodes Opaque = false
is_two_nodes AdjacentConditionedSpace = false
is_two_nodes AdjacentUnconditionedSpaceSimple = false
is_two_nodes Ground = false
is_two_nodes Transparent = true
is_two_nodes PartyWall = false

unfoldable pub number_of_nodes : Kind → ℕ
number_of_nodes k = cond (is_two_nodes k) 2 5

unfoldable pub nodes_of : List Element → ℕ
nodes_of [] = 0
nodes_of (e ∷ es) = number_of_nodes e.kind + nodes_of es

-- the nodes of the elements, and the internal air
unfoldable pub node_count : Zone → ℕ
node_count z = nodes_of (take z.count z.building_elements) + 1
