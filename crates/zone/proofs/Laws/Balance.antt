-- The heat balance's sums, made in one pass over the elements: nine at the external boundary, four at the internal one.
use Rattle.std.proofs.Common.{◌≡◌, refl, ◌∙◌, ◌||◌, List, ℕ, zero, suc, ◌-◌, arith, Float}
use Rattle.solver.specs.Repeat.{repeat_of, repeat}
use Rattle.solver.specs.Sums.{sum_from, terms_of}
use Rattle.solver.specs.FastSolver.{at_most24}
use Rattle.zone.specs.declared.record.building_element.Kind.{Kind}
use Rattle.zone.specs.declared.record.building_element.Kind.TheVariants.{Opaque, AdjacentConditionedSpace, AdjacentUnconditionedSpaceSimple, Ground, Transparent, PartyWall}
use Rattle.zone.specs.declared.record.building_element.Element.{Element}
use Rattle.zone.specs.declared.record.building_element.Coefficients.{Coefficients}
use Rattle.zone.specs.declared.record.building_element.HeatFlowDirection.{HeatFlowDirection}
use Rattle.zone.specs.declared.record.building_element.HeatFlowDirection.TheVariants.{Horizontal, Upwards, Downwards}
use Rattle.zone.specs.declared.format.conditions.Conditions.{Conditions}
use Rattle.zone.specs.declared.physics.balance.HeatBalanceAirNode.{HeatBalanceAirNode}
use Rattle.zone.specs.declared.physics.fabric.FabricSums.{FabricSums}
use Rattle.zone.specs.declared.physics.convection.ConvectiveSums.{ConvectiveSums}
use Rattle.zone.specs.declared.record.zone_record.Zone.{Zone}
use Rattle.zone.specs.Physics.Slots.{outer_surface, element, element_hour}
use Rattle.zone.specs.Record.BuildingElement.{is_direction}
use Rattle.zone.specs.Physics.System.{zone_two_nodes, direction_at}
use Rattle.zone.specs.Physics.HeatBalance.{terms_where, convective_loss_at, internal_boundary, convective_heat, radiative_heat, solar_heat, sky_heat, is_kind, heat_at, terms_of_kind, external_boundary}
use Rattle.zone.specs.Inner.FabricSums.{add_element, no_fabric, add_element_at, external_boundary_from}
use Rattle.zone.specs.Inner.ConvectiveSums.{no_convection, add_loss_at, internal_boundary_from}
use Rattle.zone.proofs.Laws.Terms.{repeat_same}
use Rattle.zone.proofs.Laws.Zones.{two_nodes_at}

-- ---- at the external boundary

module _ (z : Zone) (hour : Conditions) (vector_x : List Float) where
  -- an element is added, its outer surface found by the zone's list
  turn : ℕ → FabricSums → FabricSums
  turn e s =
      add_element (element z.building_elements e) (element_hour hour.elements e) (outer_surface (zone_two_nodes z) vector_x e) s

  turns_same : (n : ℕ) (s : FabricSums) → n ≡ at_most24 z.count
      → repeat 0 n (add_element_at z.building_elements hour.elements vector_x) s ≡ repeat 0 n turn s
  unfolding turn
  turns_same n s h =
      repeat_same (add_element_at z.building_elements hour.elements vector_x) turn n s (λ e l s. rw (two_nodes_at z e (omega arith)) refl)

  -- what k elements from element i on add to nine sums
  abbrev sums : (k i : ℕ) → FabricSums → FabricSums
  sums k i s =
      record {
        convective = sum_from s.convective (terms_of k i (heat_at z hour vector_x convective_heat));
        radiative = sum_from s.radiative (terms_of k i (heat_at z hour vector_x radiative_heat));
        sol = sum_from s.sol (terms_of k i (heat_at z hour vector_x solar_heat));
        sky = sum_from s.sky (terms_of k i (heat_at z hour vector_x sky_heat));
        opaque = sum_from s.opaque (terms_of_kind z hour vector_x (is_kind Opaque) k i);
        transparent = sum_from s.transparent (terms_of_kind z hour vector_x (is_kind Transparent) k i);
        to_ground = sum_from s.to_ground (terms_of_kind z hour vector_x (is_kind Ground) k i);
        ztc = sum_from s.ztc (terms_of_kind z hour vector_x (is_kind AdjacentConditionedSpace) k i);
        ztu = sum_from s.ztu (terms_of_kind z hour vector_x (λ k. is_kind AdjacentUnconditionedSpaceSimple k || is_kind PartyWall k) k i);
      }

  -- one element, by its kind
  sums_next : (k i : ℕ) (s : FabricSums) (kind : Kind) → (element z.building_elements i).kind ≡ kind
      → sums k (suc i) (turn i s) ≡ sums (suc k) i s
  unfolding turn add_element terms_of sum_from terms_where
  sums_next k i s Opaque e = rw e refl
  sums_next k i s AdjacentConditionedSpace e = rw e refl
  sums_next k i s AdjacentUnconditionedSpaceSimple e = rw e refl
  sums_next k i s Ground e = rw e refl
  sums_next k i s Transparent e = rw e refl
  sums_next k i s PartyWall e = rw e refl

  sums_are : (k i : ℕ) (s : FabricSums) → repeat_of k i turn s ≡ sums k i s
  unfolding repeat_of terms_of sum_from terms_where
  sums_are zero i s = refl
  sums_are (suc k) i s =
      sums_are k (suc i) (turn i s) ∙ sums_next k i s (element z.building_elements i).kind refl

  external_all : (a : HeatBalanceAirNode) (gains_heat_cool : Float)
      → external_boundary_from (repeat 0 (at_most24 z.count) (add_element_at z.building_elements hour.elements vector_x) no_fabric) a hour gains_heat_cool
      ≡ external_boundary z hour vector_x a gains_heat_cool
  external_all a gains_heat_cool =
      let n = at_most24 z.count in
      let all : n - 0 ≡ n = omega arith in
      rw (turns_same n no_fabric refl, sums_are (n - 0) 0 no_fabric, all) refl

  pub external_is : (n : ℕ) (a : HeatBalanceAirNode) (gains_heat_cool : Float) → n ≡ at_most24 z.count
      → external_boundary_from (repeat 0 n (add_element_at z.building_elements hour.elements vector_x) no_fabric) a hour gains_heat_cool
      ≡ external_boundary z hour vector_x a gains_heat_cool
  external_is n a gains_heat_cool h = rw h (external_all a gains_heat_cool)

-- ---- at the internal boundary

module _ (c : Coefficients) (es : List Element) (temp_prev vector_x : List Float) where
  abbrev loss : ℕ → Float
  loss = convective_loss_at c es temp_prev vector_x

  -- the terms of k elements from element i on whose direction is d
  abbrev losses_of : HeatFlowDirection → (k i : ℕ) → List Float
  losses_of d k i = terms_where (λ e. is_direction (direction_at c es temp_prev e) d) loss k i

  -- what these elements add to four sums
  abbrev convective : (k i : ℕ) → ConvectiveSums → ConvectiveSums
  convective k i s =
      record {
        total = sum_from s.total (terms_of k i loss);
        horizontal = sum_from s.horizontal (losses_of Horizontal k i);
        upwards = sum_from s.upwards (losses_of Upwards k i);
        downwards = sum_from s.downwards (losses_of Downwards k i);
      }

  -- one element, by its direction
  convective_next : (k i : ℕ) (s : ConvectiveSums) (d : HeatFlowDirection) → direction_at c es temp_prev i ≡ d
      → convective k (suc i) (add_loss_at c es temp_prev vector_x i s) ≡ convective (suc k) i s
  unfolding terms_of sum_from terms_where
  convective_next k i s Horizontal e = rw e refl
  convective_next k i s Upwards e = rw e refl
  convective_next k i s Downwards e = rw e refl

  convective_are : (k i : ℕ) (s : ConvectiveSums) → repeat_of k i (add_loss_at c es temp_prev vector_x) s ≡ convective k i s
  unfolding repeat_of terms_of sum_from terms_where
  convective_are zero i s = refl
  convective_are (suc k) i s =
      convective_are k (suc i) (add_loss_at c es temp_prev vector_x i s) ∙ convective_next k i s (direction_at c es temp_prev i) refl

module _ (c : Coefficients) (z : Zone) (temp_prev vector_x : List Float) (hour : Conditions) (gains_heat_cool f_hc_c : Float) where
  internal_all : internal_boundary_from c (repeat 0 (at_most24 z.count) (add_loss_at c z.building_elements temp_prev vector_x) no_convection) hour gains_heat_cool f_hc_c
      ≡ internal_boundary c z temp_prev vector_x hour gains_heat_cool f_hc_c
  internal_all =
      let n = at_most24 z.count in
      let all : n - 0 ≡ n = omega arith in
      rw (convective_are c z.building_elements temp_prev vector_x (n - 0) 0 no_convection, all) refl

  pub internal_is : (n : ℕ) → n ≡ at_most24 z.count
      → internal_boundary_from c (repeat 0 n (add_loss_at c z.building_elements temp_prev vector_x) no_convection) hour gains_heat_cool f_hc_c
      ≡ internal_boundary c z temp_prev vector_x hour gains_heat_cool f_hc_c
  internal_is n h = rw h internal_all
