-- A factored matrix that is kept from hour to hour. It depends on the zone, the directions of heat flow, the open treatments and the timestep, and where
-- these are the same it is the next hour's. kept_demand (proofs/Laws/KeptHour.antt) says that an hour from what is held is then the hour of the definitions.
use Rattle.std.specs.Prelude.{◌≡◌, Bool, true, false, cond, ◌&&◌, List, [], ◌∷◌, ℕ, suc, zero, eqb, get_or, replicate, Float}
use Rattle.std.specs.Coded.{codes}
use Rattle.std.specs.Float.{nan, binary64}
use Rattle.std.specs.Float.Ieee.{of_bits, to_bits}
use Rattle.std.proofs.Props.{props}
use Rattle.solver.specs.F64.{◌/ᶠ◌, zero64}
use Rattle.solver.specs.Repeat.{repeat}
use Rattle.solver.specs.Sums.{sum2, terms}
use Rattle.solver.specs.FastSolver.{at_most24}
use Rattle.solver.specs.Promise.{column_of, reduce_chains, inner_shares, Columns, columns, factor_apart}
use Rattle.zone.specs.declared.record.building_element.Element.{Element}
use Rattle.zone.specs.declared.record.building_element.Coefficients.{Coefficients}
use Rattle.zone.specs.declared.record.building_element.ElementHour.{ElementHour}
use Rattle.zone.specs.declared.record.building_element.HeatFlowDirection.{HeatFlowDirection}
use Rattle.zone.specs.declared.record.building_element.HeatFlowDirection.TheVariants.{Horizontal}
use Rattle.zone.specs.declared.format.conditions.Conditions.{Conditions}
use Rattle.zone.specs.declared.record.zone_record.Zone.{Zone}
use Rattle.zone.specs.Record.BuildingElement.{is_direction, h_ci_of}
use Rattle.zone.specs.Physics.Slots.{air, element, element_hour, with_terms}
use Rattle.zone.specs.Physics.Equations.{rows_of}
use Rattle.zone.specs.Physics.System.{area_of, two_nodes_of, area_el_total, share_of, direction_at, c_int}
use Rattle.zone.specs.Inner.Assembly.{convective_by, Chains, chains, set_rows, couple_row}
use Rattle.zone.specs.Inner.Assembled.{ZoneTerms, h_ri_of, element_sides}
use Rattle.zone.specs.Inner.Operative.{areas_of, control_by}
use Rattle.zone.specs.Inner.Prepared.{Prepared, prepared}
use Rattle.zone.specs.Inner.Hour.{Hour, hour_with}
use Rattle.zone.specs.Hour.Demand.{delta_t}

-- the directions of heat flow at the elements' inner surfaces, from the temperatures before the step
abbrev pub directions_of : Coefficients → Zone → List Float → List HeatFlowDirection
directions_of c z t = with_terms (at_most24 z.count) (direction_at c z.building_elements t) (replicate 24 Horizontal)

-- the open treatments of element e, and of the elements
abbrev pub treatments_open_at : List ElementHour → ℕ → ℕ
treatments_open_at hours e = (element_hour hours e).treatments_open

abbrev pub opens_of : Conditions → List ℕ
opens_of h = with_terms 24 (treatments_open_at h.elements) (replicate 24 0)

-- h_ci of element e by its direction
abbrev pub h_ci_in : Coefficients → (directions : List HeatFlowDirection) → ℕ → Float
h_ci_in c directions e = h_ci_of c (get_or directions e Horizontal)

-- (41), (40), (39) of element e
unfoldable pub rows_by : List Element → (opens : List ℕ) (delta_t : Float) (h_ci share : ℕ → Float) → ℕ → Chains → Chains
rows_by es opens delta_t h_ci share e s = set_rows e (rows_of (element es e) delta_t (get_or opens e 0) (h_ci e) (share e)) s

module _ (n : ℕ) (es : List Element) where
  unfoldable pub chains_by : (opens : List ℕ) (delta_t : Float) (h_ci : ℕ → Float) → Chains → Chains
  chains_by opens delta_t h_ci s = repeat 0 n (rows_by es opens delta_t h_ci (share_of n es)) s

  unfoldable pub couplings_by : (h_ci : ℕ → Float) → List Float → List Float
  couplings_by h_ci m = repeat 0 n (couple_row n (area_of es) (h_ri_of es) h_ci (share_of n es)) m

  unfoldable pub convective_by_sum : (h_ci : ℕ → Float) → Float
  convective_by_sum h_ci = sum2 (terms 0 n (convective_by (area_of es) h_ci))

-- the zone's terms from the two sums over its elements: the area, and area × h_ci
abbrev pub terms_by : Coefficients → Zone → Conditions → (delta_t : Float) → List Float → (sums : List Float) → ZoneTerms
terms_by c z hour delta_t t sums =
    record {
      n = at_most24 z.count;
      area_el_total = get_or sums 0 nan;
      c_int_per_delta_t = c_int c z /ᶠ delta_t;
      convective = get_or sums 1 nan;
      tb_heat_trans_coeff = z.tb_heat_trans_coeff;
      temp_int_air = air t;
      temp_ext_air = hour.temp_ext_air;
      avg_supply_temp = hour.avg_air_supply_temp;
      gains_internal = hour.gains_internal;
      gains_solar = hour.gains_solar;
      f_int_c = c.f_int_c;
      f_sol_c = c.f_sol_c;
    }

-- of `Prepared` what rates, loads and right sides do not change
pub data Factors : Type 0 where
  factors :
      (valid : Bool) (two_nodes : List Bool) (diag next prev dense : List Float) (interchanges : List ℕ) (column : List Float) → Factors

-- the arrays that a matrix is assembled and factored in
pub data Arrays : Type 0 where
  arrays : (two_nodes : List Bool) (diag next prev dense : List Float) (interchanges : List ℕ) → Arrays

abbrev pub zeros : Arrays
zeros =
    arrays (replicate 24 false) (replicate 120 zero64) (replicate 120 zero64) (replicate 120 zero64) (replicate 625 zero64) (replicate 25 0)

abbrev pub factors_from : List Bool → (next prev column : List Float) → Columns → Factors
factors_from two_nodes next prev column (columns valid diag dense interchanges) = factors valid two_nodes diag next prev dense interchanges column

abbrev pub factors_with : ℕ → List Bool → Chains → (dense : List Float) (interchanges : List ℕ) → Factors
factors_with n two_nodes (chains diag next prev) dense interchanges =
    factors_from two_nodes next prev (column_of n dense) (factor_apart n two_nodes diag next prev dense interchanges)

-- of a zone at these directions, open treatments and timestep, assembled in arrays that are given
abbrev pub factors_in : Coefficients → Zone → (directions : List HeatFlowDirection) (opens : List ℕ) (delta_t : Float) → Arrays → Factors
factors_in c z directions opens delta_t (arrays two_nodes diag next prev dense interchanges) =
    let n = at_most24 z.count in
    let es = z.building_elements in
    factors_with (at_most24 n)
    (with_terms n (two_nodes_of es) two_nodes)
    (chains_by n es opens delta_t (h_ci_in c directions) (chains diag next prev))
    (couplings_by n es (h_ci_in c directions) dense)
    interchanges

unfoldable pub factors_by : Coefficients → Zone → (directions : List HeatFlowDirection) (opens : List ℕ) (delta_t : Float) → Factors
factors_by c z directions opens delta_t = factors_in c z directions opens delta_t zeros

-- the two sums over the elements, the area and area × h_ci, and the timestep
abbrev pub numbers_by : Coefficients → Zone → (directions : List HeatFlowDirection) (delta_t : Float) → List Float
numbers_by c z directions delta_t =
    let n = at_most24 z.count in
    area_el_total n z.building_elements ∷ convective_by_sum n z.building_elements (h_ci_in c directions) ∷ delta_t ∷ []

-- the directions and the open treatments that a matrix is assembled for
abbrev pub Key : Type 0
Key = List HeatFlowDirection × List ℕ

-- what is held: whether a factored matrix, and whether its divisors are valid; its sums and timestep; its key; the matrix and its last column
pub data Held : Type 0 where
  held : (flags : List Bool) (numbers : List Float) (key : Key) (a : Arrays) (column : List Float) → Held

abbrev pub factors_held : Held → Factors
factors_held (held flags numbers key (arrays two_nodes diag next prev dense interchanges) column) =
    factors (get_or flags 1 false) two_nodes diag next prev dense interchanges column

abbrev pub numbers_held : Held → List Float
numbers_held (held flags numbers key a column) = numbers

-- no matrix
abbrev pub none_held : Held
none_held = held (replicate 2 false) (replicate 3 zero64) (replicate 24 Horizontal, replicate 24 0) zeros (replicate 25 zero64)

-- a matrix is held, of the same timestep, by its bits, directions and open treatments
unfoldable pub same_elements : ℕ → Key → (directions : List HeatFlowDirection) (opens : List ℕ) → Bool
same_elements zero key directions opens = true
same_elements (suc e) key directions opens =
    same_elements e key directions opens
    && (is_direction (get_or directions e Horizontal) (get_or key.0 e Horizontal) && eqb (get_or key.1 e 0) (get_or opens e 0))

unfoldable pub same_key : (is_held : Bool) (kept_delta_t delta_t : Float) (n : ℕ) → Key → (directions : List HeatFlowDirection) (opens : List ℕ) → Bool
same_key is_held kept_delta_t delta_t n key directions opens =
    is_held && (eqb (to_bits binary64 kept_delta_t) (to_bits binary64 delta_t) && same_elements n key directions opens)

-- arrays of a matrix are emptied before another is assembled in them
abbrev pub emptied : (is_held : Bool) → Arrays → Arrays
emptied true a = zeros
emptied false a = a

abbrev pub held_with : (numbers : List Float) → Key → Factors → Held
held_with numbers key (factors valid two_nodes diag next prev dense interchanges column) =
    held (true ∷ valid ∷ []) numbers key (arrays two_nodes diag next prev dense interchanges) column

-- the hour's matrix, factored anew unless it is held
unfoldable pub keep_factors : Coefficients → Zone → (directions : List HeatFlowDirection) (opens : List ℕ) (delta_t : Float) → Held → Held
keep_factors c z directions opens delta_t (held flags numbers key a column) =
    cond (same_key (get_or flags 0 false) (get_or numbers 2 nan) delta_t (at_most24 z.count) key directions opens)
    (held flags numbers key a column)
    (held_with (numbers_by c z directions delta_t) (directions, opens) (factors_in c z directions opens delta_t (emptied (get_or flags 0 false) a)))

-- an hour prepared from a matrix that is held
abbrev pub prepared_from : ZoneTerms → (b : List Float) → Factors → Prepared
prepared_from s b (factors valid two_nodes diag next prev dense interchanges column) =
    let n = at_most24 s.n in
    let y = reduce_chains n two_nodes diag prev b in
    prepared s valid two_nodes diag next dense interchanges column y (inner_shares n diag prev y (replicate 24 zero64))

unfoldable pub hour_from : Coefficients → Zone → List Float → Conditions → (numbers : List Float) → Factors → Hour
hour_from c z t h numbers k =
    let n = at_most24 z.count in
    hour_with
    (prepared_from (terms_by c z h (delta_t h) t numbers)
    (element_sides n z.building_elements h.elements (delta_t h) t (replicate 121 zero64)) k)
    z (control_by z.temp_setpnt_basis z.count (areas_of z) (get_or numbers 0 nan)) h

abbrev pub hour_held : Coefficients → Zone → List Float → Conditions → Held → Hour
hour_held c z t h x = hour_from c z t h (numbers_held x) (factors_held x)

-- ---- where it is the zone's: `hour_held` is then the hour's own system, prepared (Laws/KeptHour.antt)

pub record FactorsOf (c : Coefficients) (z : Zone) (directions : List HeatFlowDirection) (opens : List ℕ) (delta_t : Float) (k : Factors) (sums : List Float) : Type 0 where
  pub are : k ≡ factors_by c z directions opens delta_t
  pub total : get_or sums 0 nan ≡ area_el_total (at_most24 z.count) z.building_elements
  pub convective : get_or sums 1 nan ≡ convective_by_sum (at_most24 z.count) z.building_elements (h_ci_in c directions)

-- arrays of zeros where the first flag is false; else the factors of this zone at the timestep, the directions and the open treatments that are kept
pub record KeptIn (c : Coefficients) (z : Zone) (flags : List Bool) (numbers : List Float) (key : Key) (a : Arrays) (k : Factors) : Type 0 where
  pub when_empty : get_or flags 0 false ≡ false → a ≡ zeros
  pub when_held : get_or flags 0 false ≡ true → FactorsOf c z key.0 key.1 (of_bits binary64 (to_bits binary64 (get_or numbers 2 nan))) k numbers

abbrev pub Kept : Coefficients → Zone → Held → Type 0
Kept c z (held flags numbers key a column) = KeptIn c z flags numbers key a (factors_held (held flags numbers key a column))

-- a ghost field says what has one proof at most
pub Kept_prop : (c : Coefficients) (z : Zone) (x : Held) → IsProp (Kept c z x)
Kept_prop c z (held flags numbers key a column) = hlevel (codes, props)
