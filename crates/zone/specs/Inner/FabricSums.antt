-- The heat balance's nine sums as the code has them: all in one pass over the elements. `repeat 0 n (add_element_at ..) no_fabric` holds the nine sums of
-- HeatBalance's `external_boundary`.
use Rattle.std.specs.Prelude.{ℕ, ◌+◌, ◌*◌, Bool, cond, List, get_or, Float}
use Rattle.std.specs.Float.{nan}
use Rattle.solver.specs.F64.{◌+ᶠ◌, zero64}
use Rattle.zone.specs.declared.record.building_element.Kind.{Kind}
use Rattle.zone.specs.declared.record.building_element.Kind.TheVariants.{Opaque, AdjacentConditionedSpace, AdjacentUnconditionedSpaceSimple, Ground, Transparent, PartyWall}
use Rattle.zone.specs.declared.record.building_element.Element.{Element}
use Rattle.zone.specs.declared.record.building_element.ElementHour.{ElementHour}
use Rattle.zone.specs.declared.format.conditions.Conditions.{Conditions}
use Rattle.zone.specs.declared.physics.balance.HeatBalanceAirNode.{HeatBalanceAirNode}
use Rattle.zone.specs.declared.physics.balance.HeatBalanceExternalBoundary.{HeatBalanceExternalBoundary}
use Rattle.zone.specs.declared.physics.fabric.FabricSums.{FabricSums}
use Rattle.zone.specs.Physics.Slots.{element, element_hour}
use Rattle.zone.specs.Physics.System.{two_nodes_of}
use Rattle.zone.specs.Physics.HeatBalance.{convective_heat, radiative_heat, solar_heat, sky_heat, fabric_ext}

-- the four sums over all kinds
abbrev pub add_boundary : Element → ElementHour → (t : Float) → FabricSums → FabricSums
add_boundary e h t s =
    record {
      convective = s.convective +ᶠ convective_heat e h t;
      radiative = s.radiative +ᶠ radiative_heat e h t;
      sol = s.sol +ᶠ solar_heat e h t;
      sky = s.sky +ᶠ sky_heat e h t;
      opaque = s.opaque;
      transparent = s.transparent;
      to_ground = s.to_ground;
      ztc = s.ztc;
      ztu = s.ztu;
    }

-- a party wall counts with the unconditioned spaces
abbrev pub add_kind : Kind → Float → FabricSums → FabricSums
add_kind Opaque x s =
    record { convective = s.convective; radiative = s.radiative; sol = s.sol; sky = s.sky; opaque = s.opaque +ᶠ x; transparent = s.transparent; to_ground = s.to_ground; ztc = s.ztc; ztu = s.ztu }
add_kind AdjacentConditionedSpace x s =
    record { convective = s.convective; radiative = s.radiative; sol = s.sol; sky = s.sky; opaque = s.opaque; transparent = s.transparent; to_ground = s.to_ground; ztc = s.ztc +ᶠ x; ztu = s.ztu }
add_kind AdjacentUnconditionedSpaceSimple x s =
    record { convective = s.convective; radiative = s.radiative; sol = s.sol; sky = s.sky; opaque = s.opaque; transparent = s.transparent; to_ground = s.to_ground; ztc = s.ztc; ztu = s.ztu +ᶠ x }
add_kind Ground x s =
    record { convective = s.convective; radiative = s.radiative; sol = s.sol; sky = s.sky; opaque = s.opaque; transparent = s.transparent; to_ground = s.to_ground +ᶠ x; ztc = s.ztc; ztu = s.ztu }
add_kind Transparent x s =
    record { convective = s.convective; radiative = s.radiative; sol = s.sol; sky = s.sky; opaque = s.opaque; transparent = s.transparent +ᶠ x; to_ground = s.to_ground; ztc = s.ztc; ztu = s.ztu }
add_kind PartyWall x s =
    record { convective = s.convective; radiative = s.radiative; sol = s.sol; sky = s.sky; opaque = s.opaque; transparent = s.transparent; to_ground = s.to_ground; ztc = s.ztc; ztu = s.ztu +ᶠ x }

unfoldable pub add_element : Element → ElementHour → (t : Float) → FabricSums → FabricSums
add_element e h t s = add_kind e.kind (fabric_ext e h t) (add_boundary e h t s)

abbrev pub no_fabric : FabricSums
no_fabric =
    record { convective = zero64; radiative = zero64; sol = zero64; sky = zero64; opaque = zero64; transparent = zero64; to_ground = zero64; ztc = zero64; ztu = zero64 }

abbrev pub outer_surface_by : (two_nodes : Bool) → List Float → ℕ → Float
outer_surface_by two_nodes t e = get_or t (5 * e + cond two_nodes 3 0) nan

abbrev pub add_element_at : List Element → List ElementHour → (vector_x : List Float) → ℕ → FabricSums → FabricSums
add_element_at es hours vector_x e s = add_element (element es e) (element_hour hours e) (outer_surface_by (two_nodes_of es e) vector_x e) s

abbrev pub external_boundary_from : FabricSums → HeatBalanceAirNode → Conditions → (gains_heat_cool : Float) → HeatBalanceExternalBoundary
external_boundary_from s a hour gains_heat_cool =
    record {
      solar_gains = hour.gains_solar;
      internal_gains = hour.gains_internal;
      heating_or_cooling_system_gains = gains_heat_cool;
      thermal_bridges = a.thermal_bridges;
      infiltration_ventilation = a.infiltration_ventilation;
      fabric_ext_air_convective = s.convective;
      fabric_ext_air_radiative = s.radiative;
      fabric_ext_sol = s.sol;
      fabric_ext_sky = s.sky;
      opaque_fabric_ext = s.opaque;
      transparent_fabric_ext = s.transparent;
      ground_fabric_ext = s.to_ground;
      ztc_fabric_ext = s.ztc;
      ztu_fabric_ext = s.ztu;
    }
