-- BS EN ISO 52016-1, 6.5.6: (41) outer surface, (40) inside node, (39) inner surface, of one element. Each operation rounds once, in this order.
-- Specification, Outer surface, equation (41); Inside node, equation (40); Inner surface, equation (39); Window treatments and h_pli.
use Rattle.std.specs.Prelude.{ℕ, cond, List, [], ◌∷◌, get_or, Float}
use Rattle.std.specs.Float.{nan}
use Rattle.std.specs.Float.Ieee.{neg}
use Rattle.solver.specs.F64.{◌+ᶠ◌, ◌-ᶠ◌, ◌*ᶠ◌, ◌/ᶠ◌, zero64, one64}
use Rattle.zone.specs.declared.record.building_element.Element.{Element}
use Rattle.zone.specs.declared.record.building_element.ElementHour.{ElementHour}
use Rattle.zone.specs.Record.BuildingElement.{is_two_nodes, h_pli_transparent}

-- an element's coefficients in its five slots: of each slot's own temperature, of the next slot's and of the previous slot's
pub record Rows : Type 0 where
  pub diag : List Float
  pub next : List Float
  pub prev : List Float

abbrev pub k_pli : Element → ℕ → Float
k_pli e i = get_or e.k_pli i nan

abbrev pub h_pli : Element → ℕ → Float
h_pli e i = get_or e.h_pli i nan

-- the sun on an outer surface: diffuse and direct irradiance, each by its shading
abbrev pub solar_irradiance : ElementHour → Float
solar_irradiance h = h.i_sol_dif *ᶠ h.f_sh_dif +ᶠ h.i_sol_dir *ᶠ h.f_sh_dir

module _ (e : Element) (delta_t : Float) where
  -- (41): outer surface
  abbrev pub outer_diagonal : (k h : Float) → Float
  outer_diagonal k h = k /ᶠ delta_t +ᶠ e.h_ce +ᶠ e.h_re +ᶠ h

  -- (40): inside node, with the conductance to the next node and to the previous one
  abbrev pub inside_diagonal : (k h h' : Float) → Float
  inside_diagonal k h h' = k /ᶠ delta_t +ᶠ h +ᶠ h'

  -- (39): inner surface; `share` is area / total area, and the sum of all shares is taken as 1.0. The element's own coupling is subtracted last.
  abbrev pub inner_diagonal : (h_ci share k h : Float) → Float
  inner_diagonal h_ci share k h = k /ᶠ delta_t +ᶠ h_ci +ᶠ e.h_ri *ᶠ one64 +ᶠ h -ᶠ share *ᶠ e.h_ri

  -- five nodes
  abbrev pub rows_five : (h_ci share : Float) → Rows
  rows_five h_ci share =
      record {
        diag =
            outer_diagonal (k_pli e 0) (h_pli e 0)
            ∷ inside_diagonal (k_pli e 1) (h_pli e 1) (h_pli e 0)
            ∷ inside_diagonal (k_pli e 2) (h_pli e 2) (h_pli e 1)
            ∷ inside_diagonal (k_pli e 3) (h_pli e 3) (h_pli e 2)
            ∷ inner_diagonal h_ci share (k_pli e 4) (h_pli e 3)
            ∷ [];
        next = neg (h_pli e 0) ∷ neg (h_pli e 1) ∷ neg (h_pli e 2) ∷ neg (h_pli e 3) ∷ zero64 ∷ [];
        prev = zero64 ∷ neg (h_pli e 0) ∷ neg (h_pli e 1) ∷ neg (h_pli e 2) ∷ neg (h_pli e 3) ∷ [];
      }

  -- two nodes, in the last two slots
  abbrev pub rows_two : (h_ci share h : Float) → Rows
  rows_two h_ci share h =
      record {
        diag = zero64 ∷ zero64 ∷ zero64 ∷ outer_diagonal (k_pli e 0) h ∷ inner_diagonal h_ci share (k_pli e 1) h ∷ [];
        next = zero64 ∷ zero64 ∷ zero64 ∷ neg h ∷ zero64 ∷ [];
        prev = zero64 ∷ zero64 ∷ zero64 ∷ zero64 ∷ neg h ∷ [];
      }

  unfoldable pub rows_of : (treatments_open : ℕ) (h_ci share : Float) → Rows
  rows_of treatments_open h_ci share =
      cond (is_two_nodes e.kind)
      (rows_two h_ci share (h_pli_transparent (h_pli e 0) e.delta_r e.treatments treatments_open))
      (rows_five h_ci share)

  -- the right side of (41): external air, sun and sky
  abbrev pub outer_right_side : ElementHour → (k t : Float) → Float
  outer_right_side h k t =
      k /ᶠ delta_t *ᶠ t
      +ᶠ (e.h_ce +ᶠ e.h_re) *ᶠ h.temp_ext
      +ᶠ e.solar_absorption_coeff *ᶠ solar_irradiance h
      -ᶠ e.therm_rad_to_sky

  -- the right side of (40); and that of (39) without the gains, which `right_sides_at` (System.antt) adds
  abbrev pub capacity_term : (k t : Float) → Float
  capacity_term k t = k /ᶠ delta_t *ᶠ t

  -- from the temperatures before the step in the element's five slots
  abbrev pub right_sides_five : ElementHour → List Float → List Float
  right_sides_five h t =
      outer_right_side h (k_pli e 0) (get_or t 0 nan)
      ∷ capacity_term (k_pli e 1) (get_or t 1 nan)
      ∷ capacity_term (k_pli e 2) (get_or t 2 nan)
      ∷ capacity_term (k_pli e 3) (get_or t 3 nan)
      ∷ capacity_term (k_pli e 4) (get_or t 4 nan)
      ∷ []

  abbrev pub right_sides_two : ElementHour → List Float → List Float
  right_sides_two h t =
      zero64 ∷ zero64 ∷ zero64 ∷ outer_right_side h (k_pli e 0) (get_or t 3 nan) ∷ capacity_term (k_pli e 1) (get_or t 4 nan) ∷ []

  unfoldable pub right_sides_of : ElementHour → List Float → List Float
  right_sides_of h t = cond (is_two_nodes e.kind) (right_sides_two h t) (right_sides_five h t)
