-- What an assembled hour has: lists of their lengths; and the control temperature from the areas.
use Rattle.std.proofs.Common.{◌≡◌, refl, ap, ◌∙◌, Bool, false, List, ℕ, ◌+◌, ◌-◌, ◌*◌, length, get_or, replicate, length-set, Float}
use lib.Ieee.{nan, neg}
use Rattle.solver.specs.F64.{◌-ᶠ◌, ◌*ᶠ◌, zero64}
use Rattle.solver.specs.Repeat.{repeat}
use Rattle.solver.specs.Rows.{set_entry}
use Rattle.solver.specs.FastSolver.{at_most24}
use Rattle.zone.specs.declared.record.building_element.Element.{Element}
use Rattle.zone.specs.declared.record.building_element.Coefficients.{Coefficients}
use Rattle.zone.specs.declared.record.zone_record.Zone.{Zone}
use Rattle.zone.specs.declared.record.zone_record.ZoneTemperatureControlBasis.{ZoneTemperatureControlBasis}
use Rattle.zone.specs.declared.record.zone_record.ZoneTemperatureControlBasis.TheVariants.{Air, Operative}
use Rattle.zone.specs.declared.format.conditions.Conditions.{Conditions}
use Rattle.zone.specs.Physics.Slots.{element, element_hour, element_slots, set_slot, set_slots, with_terms}
use Rattle.zone.specs.Physics.Equations.{right_sides_of}
use Rattle.zone.specs.Physics.System.{area_of, area_el_total, h_ci_at, share_of, two_nodes_of}
use Rattle.zone.specs.Inner.Assembly.{Chains, chains, couple, couple_row, element_right_sides}
use Rattle.zone.specs.Inner.Assembled.{ZoneTerms, h_ri_of, element_chains, couplings_of, element_sides, zone_terms_of, Assembled, assembled, assembled_with, assemble, assemble_step}
use Rattle.zone.specs.Inner.Operative.{areas_of, control_by}
use Rattle.zone.specs.Hour.Demand.{delta_t, temperature_by, control_temperature}
use Rattle.zone.specs.Inner.Solves.{hour_system}
use Rattle.zone.proofs.Laws.Terms.{repeat_length}
use Rattle.zone.proofs.Laws.Zones.{operative_is}

module _ (co : Coefficients) where
  abbrev pub dense_in : Assembled → List Float
  dense_in (assembled s two_nodes diag next prev dense b) = dense

  abbrev pub sides_in : Assembled → List Float
  sides_in (assembled s two_nodes diag next prev dense b) = b

  module _ (s : ZoneTerms) (two_nodes : List Bool) where
    dense_with_lem : (c : Chains) (dense b : List Float) → dense_in (assembled_with s two_nodes c dense b) ≡ dense
    dense_with_lem (chains diag next prev) dense b = refl

    sides_with : (c : Chains) (dense b : List Float) → sides_in (assembled_with s two_nodes c dense b) ≡ b
    sides_with (chains diag next prev) dense b = refl

  -- storing keeps lengths
  row_length : (n : ℕ) (area h_ri h_ci share : ℕ → Float) (i : ℕ) (m : List Float) → length (couple_row n area h_ri h_ci share i m) ≡ length m
  unfolding couple_row
  row_length n area h_ri h_ci share i m =
      length-set (set_entry i n (neg (h_ci i)) (repeat 0 n (couple share (h_ri i) i) m)) (25 * n + i) (neg (area i) *ᶠ h_ci i)
      ∙ length-set (repeat 0 n (couple share (h_ri i) i) m) (25 * i + n) (neg (h_ci i))
      ∙ repeat_length (couple share (h_ri i) i) (λ k l. length-set l (25 * i + k) (zero64 -ᶠ share k *ᶠ h_ri i)) (n - 0) 0 m

  slots_length : (e : ℕ) (r d : List Float) → length (set_slots e r d) ≡ length d
  unfolding set_slots
  slots_length e r d = repeat_length (set_slot e r) (λ j l. length-set l (5 * e + j) (get_or r j nan)) 5 0 d

  module _ (c : Coefficients) (z : Zone) (hour : Conditions) (dt : Float) (t : List Float) (two_nodes : List Bool) (s : Chains) (dense b : List Float) where
    abbrev n : ℕ
    n = at_most24 z.count

    abbrev es : List Element
    es = z.building_elements

    abbrev x : ZoneTerms
    x = zone_terms_of c z hour dt t

    abbrev two : List Bool
    two = with_terms n (two_nodes_of es) two_nodes

    abbrev rows : Chains
    rows = element_chains c n es hour.elements dt t s

    dense_assembled : length (dense_in (assemble c z hour dt t two_nodes s dense b)) ≡ length dense
    unfolding assemble couplings_of
    dense_assembled =
        ap length (dense_with_lem x two rows (couplings_of c n es t dense) (element_sides n es hour.elements dt t b))
        ∙ repeat_length (couple_row n (area_of es) (h_ri_of es) (h_ci_at c es t) (share_of n es)) (row_length n (area_of es) (h_ri_of es) (h_ci_at c es t) (share_of n es)) (n - 0) 0 dense

    sides_assembled : length (sides_in (assemble c z hour dt t two_nodes s dense b)) ≡ length b
    unfolding assemble element_sides element_right_sides
    sides_assembled =
        ap length (sides_with x two rows (couplings_of c n es t dense) (element_sides n es hour.elements dt t b))
        ∙ repeat_length (element_right_sides es hour.elements dt t)
        (λ e l. slots_length e (right_sides_of (element es e) dt (element_hour hour.elements e) (element_slots t e)) l) (n - 0) 0 b

  -- of an hour, which is assembled on lists of zeros
  module _ (z : Zone) (t : List Float) (h : Conditions) where
    abbrev zeros : Chains
    zeros = chains (replicate 120 zero64) (replicate 120 zero64) (replicate 120 zero64)

    pub dense_length : length (dense_in (hour_system co z t h)) ≡ 625
    unfolding hour_system assemble_step
    dense_length = dense_assembled co z h (delta_t h) t (replicate 24 false) zeros (replicate 625 zero64) (replicate 121 zero64)

    pub sides_length : length (sides_in (hour_system co z t h)) ≡ 121
    unfolding hour_system assemble_step
    sides_length = sides_assembled co z h (delta_t h) t (replicate 24 false) zeros (replicate 625 zero64) (replicate 121 zero64)

  -- from the areas, by the zone's basis
  pub control_by_lem : (z : Zone) (t : List Float)
      → control_by z.temp_setpnt_basis z.count (areas_of z) (area_el_total (at_most24 z.count) z.building_elements) t ≡ control_temperature z t
  unfolding control_temperature
  control_by_lem z t = by z.temp_setpnt_basis
    where
      by : (basis : ZoneTemperatureControlBasis)
          → control_by basis z.count (areas_of z) (area_el_total (at_most24 z.count) z.building_elements) t ≡ temperature_by basis z t
      by Air = refl
      by Operative = operative_is z t
