-- The system of one time step, BS EN ISO 52016-1, (38) to (41), from coefficients, zone, the temperatures before the step (in their slots), the hour's
-- conditions and the step's length in seconds. Each operation rounds once, in this order.
-- Specification, Constants and capacity; Inner surface, equation (39); Zone, equation (38); Which coefficients are kept; Direction of heat flow and h_ci.
use Rattle.std.specs.Prelude.{ℕ, Bool, false, List, get_or, set, replicate, Float}
use Rattle.std.specs.Float.{nan}
use Rattle.std.specs.Float.Ieee.{neg}
use Rattle.solver.specs.F64.{◌+ᶠ◌, ◌-ᶠ◌, ◌*ᶠ◌, ◌/ᶠ◌, zero64, one64}
use Rattle.solver.specs.Repeat.{repeat}
use Rattle.solver.specs.Rows.{set_entry}
use Rattle.solver.specs.Sums.{sum2, terms}
use Rattle.solver.specs.FastSolver.{at_most24}
use Rattle.solver.specs.declared.system.Matrix.{Matrix}
use Rattle.zone.specs.declared.record.building_element.Element.{Element}
use Rattle.zone.specs.declared.record.building_element.Coefficients.{Coefficients}
use Rattle.zone.specs.declared.record.building_element.HeatFlowDirection.{HeatFlowDirection}
use Rattle.zone.specs.declared.format.conditions.Conditions.{Conditions}
use Rattle.zone.specs.declared.record.zone_record.Zone.{Zone}
use Rattle.zone.specs.Record.BuildingElement.{is_two_nodes, heat_flow_direction, h_ci}
use Rattle.zone.specs.Physics.Slots.{air, inner_surface, element_slots, element, element_hour, with_terms, in_slots}
use Rattle.zone.specs.Physics.Equations.{Rows, rows_of, right_sides_of}

-- the area of element e, and whether it has two nodes
abbrev pub area_of : List Element → ℕ → Float
area_of es e = (element es e).area

abbrev pub two_nodes_of : List Element → ℕ → Bool
two_nodes_of es e = is_two_nodes (element es e).kind

-- which of a zone's elements have two nodes, `false` in the places behind them
unfoldable pub zone_two_nodes : Zone → List Bool
zone_two_nodes z = with_terms (at_most24 z.count) (two_nodes_of z.building_elements) (replicate 24 false)

-- the total area of the first n elements, and the share of element e
unfoldable pub area_el_total : ℕ → List Element → Float
area_el_total n es = sum2 (terms 0 n (area_of es))

abbrev pub share_of : ℕ → List Element → ℕ → Float
share_of n es e = area_of es e /ᶠ area_el_total n es

-- at the inner surface of element e, from the temperatures before the step: the direction of heat flow and h_ci; and its term of the zone's convective sum
abbrev pub direction_at : Coefficients → List Element → List Float → ℕ → HeatFlowDirection
direction_at c es t e = heat_flow_direction c (element es e).pitch (air t) (inner_surface t e)

abbrev pub h_ci_at : Coefficients → List Element → List Float → ℕ → Float
h_ci_at c es t e = h_ci c (element es e).pitch (air t) (inner_surface t e)

abbrev pub convective_at : Coefficients → List Element → List Float → ℕ → Float
convective_at c es t e = area_of es e *ᶠ h_ci_at c es t e

-- the heat capacity of the air and of what stands in the zone, in J / K
abbrev pub c_int : Coefficients → Zone → Float
c_int c z = c.k_m_int *ᶠ z.useful_area

module _ (c : Coefficients) (z : Zone) (temp_prev : List Float) (hour : Conditions) (delta_t : Float) where
  -- (41), (40), (39) of element e
  abbrev pub rows_at : ℕ → Rows
  rows_at e =
      let n = at_most24 z.count in
      let es = z.building_elements in
      rows_of (element es e) delta_t (element_hour hour.elements e).treatments_open (h_ci_at c es temp_prev e) (share_of n es e)

  -- (39), row i: the couplings with the other inner surfaces, 0 less the share of element k times this element's h_ri; then the zone
  -- column, and the entry in the zone row (38). (On the diagonal comes `inner_diagonal`, adjusted by its chain's elimination.)
  unfoldable pub couplings : ℕ → List Float → List Float
  couplings i m =
      let n = at_most24 z.count in
      let es = z.building_elements in
      let h_ci = h_ci_at c es temp_prev i in
      set_entry n i (neg (area_of es i) *ᶠ h_ci)
      (set_entry i n (neg h_ci) (repeat 0 n (λ k. set_entry i k (zero64 -ᶠ share_of n es k *ᶠ (element es i).h_ri)) m))

  -- (38): the zone's own coefficient, at a ventilation coefficient
  abbrev pub zone_diagonal : (h_ve : Float) → Float
  zone_diagonal h_ve =
      c_int c z /ᶠ delta_t
      +ᶠ sum2 (terms 0 (at_most24 z.count) (convective_at c z.building_elements temp_prev))
      +ᶠ h_ve
      +ᶠ z.tb_heat_trans_coeff

  -- the coefficients of all temperatures; a slot that no node has holds 0.0
  unfoldable pub matrix_a : (h_ve : Float) → Matrix
  matrix_a h_ve =
      let n = at_most24 z.count in
      record {
        n = n;
        two_nodes = zone_two_nodes z;
        diag = in_slots n (λ e. (rows_at e).diag) (replicate 120 zero64);
        next = in_slots n (λ e. (rows_at e).next) (replicate 120 zero64);
        prev = in_slots n (λ e. (rows_at e).prev) (replicate 120 zero64);
        dense = set_entry n n (zone_diagonal h_ve) (repeat 0 n couplings (replicate 625 zero64));
      }

  module _ (gains_heat_cool f_hc_c : Float) where
    -- (39): the gains that go to each m2 of inner surface
    abbrev pub gains_per_area : Float
    gains_per_area =
        ((one64 -ᶠ c.f_int_c) *ᶠ hour.gains_internal
        +ᶠ (one64 -ᶠ c.f_sol_c) *ᶠ hour.gains_solar
        +ᶠ (one64 -ᶠ f_hc_c) *ᶠ gains_heat_cool)
        /ᶠ area_el_total (at_most24 z.count) z.building_elements

    -- the right sides of (41), (40), (39) of element e: `gains_per_area` goes to the inner surface
    abbrev pub right_sides_at : ℕ → List Float
    right_sides_at e =
        let b = right_sides_of (element z.building_elements e) delta_t (element_hour hour.elements e) (element_slots temp_prev e) in
        set b 4 (get_or b 4 nan +ᶠ gains_per_area)

    -- (38): the right side
    abbrev pub zone_right_side : (h_ve : Float) → Float
    zone_right_side h_ve =
        c_int c z /ᶠ delta_t *ᶠ air temp_prev
        +ᶠ h_ve *ᶠ hour.avg_air_supply_temp
        +ᶠ z.tb_heat_trans_coeff *ᶠ hour.temp_ext_air
        +ᶠ c.f_int_c *ᶠ hour.gains_internal
        +ᶠ c.f_sol_c *ᶠ hour.gains_solar
        +ᶠ f_hc_c *ᶠ gains_heat_cool

    unfoldable pub vector_b : (h_ve : Float) → List Float
    vector_b h_ve = set (in_slots (at_most24 z.count) right_sides_at (replicate 121 zero64)) 120 (zone_right_side h_ve)
