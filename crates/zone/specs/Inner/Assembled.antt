-- What the systems of one time step share, as the code has it: assembled once, into arrays that are given, then a matrix for each rate and a right side
-- for each load. `matrix_of` and `right_side_of` of `assemble_step` are `matrix_a` and `vector_b` of System.
use Rattle.std.specs.Prelude.{ℕ, Bool, false, List, set, replicate, Float}
use Rattle.solver.specs.F64.{◌+ᶠ◌, ◌-ᶠ◌, ◌*ᶠ◌, ◌/ᶠ◌, zero64, one64}
use Rattle.solver.specs.Repeat.{repeat}
use Rattle.solver.specs.Rows.{set_entry}
use Rattle.solver.specs.Sums.{sum2, terms}
use Rattle.solver.specs.FastSolver.{at_most24}
use Rattle.solver.specs.declared.system.Matrix.{Matrix}
use Rattle.zone.specs.declared.record.building_element.Element.{Element}
use Rattle.zone.specs.declared.record.building_element.ElementHour.{ElementHour}
use Rattle.zone.specs.declared.record.building_element.Coefficients.{Coefficients}
use Rattle.zone.specs.declared.format.conditions.Conditions.{Conditions}
use Rattle.zone.specs.declared.record.zone_record.Zone.{Zone}
use Rattle.zone.specs.Physics.Slots.{air, element, with_terms}
use Rattle.zone.specs.Physics.System.{area_of, two_nodes_of, area_el_total, share_of, h_ci_at, convective_at, c_int}
use Rattle.zone.specs.Inner.Assembly.{Chains, chains, element_rows, element_right_sides, couple_row, with_gains}

-- of element e
abbrev pub h_ri_of : List Element → ℕ → Float
h_ri_of es e = (element es e).h_ri

module _ (c : Coefficients) (n : ℕ) (es : List Element) where
  -- (38): the sum of area × h_ci
  unfoldable pub convective_sum : List Float → Float
  convective_sum t = sum2 (terms 0 n (convective_at c es t))

  -- (41), (40), (39)
  unfoldable pub element_chains : List ElementHour → (delta_t : Float) → List Float → Chains → Chains
  element_chains hours delta_t t s =
      repeat 0 n (element_rows es hours delta_t (h_ci_at c es t) (share_of n es)) s

  unfoldable pub couplings_of : List Float → List Float → List Float
  couplings_of t m =
      repeat 0 n (couple_row n (area_of es) (h_ri_of es) (h_ci_at c es t) (share_of n es)) m

-- the right sides of (41), (40), (39), but for the gains
unfoldable pub element_sides : ℕ → List Element → List ElementHour → (delta_t : Float) → List Float → List Float → List Float
element_sides n es hours delta_t t b = repeat 0 n (element_right_sides es hours delta_t t) b

-- (38): the number of elements, the terms that neither rate nor load changes, and those of the gains
pub record ZoneTerms : Type 0 where
  pub n : ℕ
  pub area_el_total : Float
  pub c_int_per_delta_t : Float
  pub convective : Float
  pub tb_heat_trans_coeff : Float
  pub temp_int_air : Float
  pub temp_ext_air : Float
  pub avg_supply_temp : Float
  pub gains_internal : Float
  pub gains_solar : Float
  pub f_int_c : Float
  pub f_sol_c : Float

abbrev pub zone_terms_of : Coefficients → Zone → Conditions → (delta_t : Float) → List Float → ZoneTerms
zone_terms_of c z hour delta_t t =
    let n = at_most24 z.count in
    record {
      n = n;
      area_el_total = area_el_total n z.building_elements;
      c_int_per_delta_t = c_int c z /ᶠ delta_t;
      convective = convective_sum c n z.building_elements t;
      tb_heat_trans_coeff = z.tb_heat_trans_coeff;
      temp_int_air = air t;
      temp_ext_air = hour.temp_ext_air;
      avg_supply_temp = hour.avg_air_supply_temp;
      gains_internal = hour.gains_internal;
      gains_solar = hour.gains_solar;
      f_int_c = c.f_int_c;
      f_sol_c = c.f_sol_c;
    }

-- what the systems of one time step share: the zone's terms; which elements have two nodes; of each slot the coefficients of its own temperature,
-- of the next and of the previous slot's; the couplings between inner surfaces with zone column and zone row; the right sides but for the gains
pub data Assembled : Type 0 where
  assembled : (s : ZoneTerms) (two_nodes : List Bool) (diag next prev dense b : List Float) → Assembled

abbrev pub assembled_with : ZoneTerms → List Bool → Chains → (dense b : List Float) → Assembled
assembled_with s two_nodes (chains diag next prev) dense b = assembled s two_nodes diag next prev dense b

-- written into lists that are given
unfoldable pub assemble :
    Coefficients → Zone → Conditions → (delta_t : Float) → List Float
    → (two_nodes : List Bool) → Chains → (dense b : List Float) → Assembled
assemble c z hour delta_t t two_nodes s dense b =
    let n = at_most24 z.count in
    let es = z.building_elements in
    assembled_with
    (zone_terms_of c z hour delta_t t)
    (with_terms n (two_nodes_of es) two_nodes)
    (element_chains c n es hour.elements delta_t t s)
    (couplings_of c n es t dense)
    (element_sides n es hour.elements delta_t t b)

-- `zone_diagonal` from the zone's terms, and it in its place
abbrev pub zone_diagonal_from : ZoneTerms → (h_ve : Float) → Float
zone_diagonal_from s h_ve = s.c_int_per_delta_t +ᶠ s.convective +ᶠ h_ve +ᶠ s.tb_heat_trans_coeff

unfoldable pub dense_with : ZoneTerms → (h_ve : Float) → List Float → List Float
dense_with s h_ve dense = set_entry (at_most24 s.n) (at_most24 s.n) (zone_diagonal_from s h_ve) dense

module _ (s : ZoneTerms) where
  -- `gains_per_area` and `zone_right_side` from the zone's terms
  abbrev pub gains_per_area_from : (gains_heat_cool f_hc_c : Float) → Float
  gains_per_area_from gains_heat_cool f_hc_c =
      ((one64 -ᶠ s.f_int_c) *ᶠ s.gains_internal
      +ᶠ (one64 -ᶠ s.f_sol_c) *ᶠ s.gains_solar
      +ᶠ (one64 -ᶠ f_hc_c) *ᶠ gains_heat_cool)
      /ᶠ s.area_el_total

  abbrev pub zone_right_side_from : (h_ve gains_heat_cool f_hc_c : Float) → Float
  zone_right_side_from h_ve gains_heat_cool f_hc_c =
      s.c_int_per_delta_t *ᶠ s.temp_int_air
      +ᶠ h_ve *ᶠ s.avg_supply_temp
      +ᶠ s.tb_heat_trans_coeff *ᶠ s.temp_ext_air
      +ᶠ s.f_int_c *ᶠ s.gains_internal
      +ᶠ s.f_sol_c *ᶠ s.gains_solar
      +ᶠ f_hc_c *ᶠ gains_heat_cool

  unfoldable pub right_side_with : (h_ve gains_heat_cool f_hc_c : Float) → List Float → List Float
  right_side_with h_ve gains_heat_cool f_hc_c b =
      set (with_gains (at_most24 s.n) (gains_per_area_from gains_heat_cool f_hc_c) b) 120
      (zone_right_side_from h_ve gains_heat_cool f_hc_c)

-- what the systems of one time step share; a slot that no node has holds 0.0
unfoldable pub assemble_step : Coefficients → Zone → (temp_prev : List Float) → Conditions → (delta_t : Float) → Assembled
assemble_step c z temp_prev hour delta_t =
    assemble c z hour delta_t temp_prev
    (replicate 24 false)
    (chains (replicate 120 zero64) (replicate 120 zero64) (replicate 120 zero64))
    (replicate 625 zero64)
    (replicate 121 zero64)

-- the matrix at a ventilation coefficient
abbrev pub matrix_of : Assembled → (h_ve : Float) → Matrix
matrix_of (assembled s two_nodes diag next prev dense b) h_ve =
    record { n = s.n; two_nodes = two_nodes; diag = diag; next = next; prev = prev; dense = dense_with s h_ve dense }

-- the right side at a ventilation coefficient and a load
abbrev pub right_side_of : Assembled → (h_ve gains_heat_cool f_hc_c : Float) → List Float
right_side_of (assembled s two_nodes diag next prev dense b) h_ve gains_heat_cool f_hc_c =
    right_side_with s h_ve gains_heat_cool f_hc_c b
