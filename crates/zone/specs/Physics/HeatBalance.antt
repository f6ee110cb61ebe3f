-- The heat balance of a time step, in W: 7, 4 and 14 values in the original's order, and behind the 4 the convective total by direction; from the temperatures
-- before (`temp_prev`) and after the step (`vector_x`), in their slots.
-- Specification, Heat balance; Direction of heat flow and h_ci; Plain sum.
use Rattle.std.specs.Prelude.{ℕ, zero, suc, Bool, cond, ◌||◌, List, [], ◌∷◌, eqb, Float}
use Rattle.std.specs.Float.Ieee.{neg}
use Rattle.solver.specs.F64.{◌+ᶠ◌, ◌-ᶠ◌, ◌*ᶠ◌, ◌/ᶠ◌, one64}
use Rattle.solver.specs.Sums.{sum_from0, terms}
use Rattle.solver.specs.FastSolver.{at_most24}
use Rattle.zone.specs.declared.record.building_element.Kind.{Kind}
use Rattle.zone.specs.declared.record.building_element.Kind.TheVariants.{Opaque, AdjacentConditionedSpace, AdjacentUnconditionedSpaceSimple, Ground, Transparent, PartyWall}
use Rattle.zone.specs.declared.record.building_element.Element.{Element}
use Rattle.zone.specs.declared.record.building_element.ElementHour.{ElementHour}
use Rattle.zone.specs.declared.record.building_element.Coefficients.{Coefficients}
use Rattle.zone.specs.declared.record.building_element.HeatFlowDirection.{HeatFlowDirection}
use Rattle.zone.specs.declared.record.building_element.HeatFlowDirection.TheVariants.{Horizontal, Upwards, Downwards}
use Rattle.zone.specs.declared.format.conditions.Conditions.{Conditions}
use Rattle.zone.specs.declared.record.zone_record.Zone.{Zone}
use Rattle.zone.specs.declared.physics.balance.HeatBalanceAirNode.{HeatBalanceAirNode}
use Rattle.zone.specs.declared.physics.balance.HeatBalanceInternalBoundary.{HeatBalanceInternalBoundary}
use Rattle.zone.specs.declared.physics.balance.HeatBalanceExternalBoundary.{HeatBalanceExternalBoundary}
use Rattle.zone.specs.declared.physics.balance.HeatBalance.{HeatBalance}
use Rattle.zone.specs.Format.Encode.{kind_number}
use Rattle.zone.specs.Record.BuildingElement.{is_direction}
use Rattle.zone.specs.Physics.Ventilation.{calc_vent_heat_transfer_coeff}
use Rattle.zone.specs.Physics.Slots.{air, inner_surface, outer_surface, element, element_hour}
use Rattle.zone.specs.Physics.Equations.{solar_irradiance}
use Rattle.zone.specs.Physics.System.{area_of, zone_two_nodes, direction_at, h_ci_at, c_int}

-- at the air node; `temp_internal` is the air's temperature after the step
abbrev pub air_node :
    Coefficients → (c_int h_ve tb_heat_trans_coeff : Float) → Conditions → (delta_t gains_heat_cool f_hc_c temp_prev temp_internal : Float)
    → HeatBalanceAirNode
air_node c c_int h_ve tb_heat_trans_coeff hour delta_t gains_heat_cool f_hc_c temp_prev temp_internal =
    let solar = c.f_sol_c *ᶠ hour.gains_solar in
    let internal = c.f_int_c *ᶠ hour.gains_internal in
    let system = f_hc_c *ᶠ gains_heat_cool in
    let energy = neg (c_int /ᶠ delta_t) *ᶠ (temp_internal -ᶠ temp_prev) in
    let bridges = tb_heat_trans_coeff *ᶠ (temp_internal -ᶠ hour.temp_ext_air) in
    let ventilation = h_ve *ᶠ (temp_internal -ᶠ hour.avg_air_supply_temp) in
    record {
      solar_gains = solar;
      internal_gains = internal;
      heating_or_cooling_system_gains = system;
      energy_to_change_internal_temperature = energy;
      thermal_bridges = neg bridges;
      infiltration_ventilation = neg ventilation;
      fabric_heat_loss = neg ((solar +ᶠ internal +ᶠ system +ᶠ energy) -ᶠ (bridges +ᶠ ventilation));
    }

-- of n terms from term e on, those that count
unfoldable pub terms_where : (counts : ℕ → Bool) (term : ℕ → Float) (n e : ℕ) → List Float
terms_where counts term zero e = []
terms_where counts term (suc n) e =
    let rest = terms_where counts term n (suc e) in
    cond (counts e) (term e ∷ rest) rest

-- heat from the air to inner surface e: h_ci is that of the temperatures before the step, the heat has those after it
abbrev pub convective_loss_at : Coefficients → List Element → (temp_prev vector_x : List Float) → ℕ → Float
convective_loss_at c es temp_prev vector_x e =
    area_of es e *ᶠ (h_ci_at c es temp_prev e *ᶠ (air vector_x -ᶠ inner_surface vector_x e))

-- the convective total, and its terms, with their signs, summed by direction, horizontal, upwards and downwards; each sum in element order. The
-- direction, as h_ci, is that of the temperatures before the step
abbrev pub internal_boundary :
    Coefficients → Zone → (temp_prev vector_x : List Float) → Conditions → (gains_heat_cool f_hc_c : Float) → HeatBalanceInternalBoundary
internal_boundary c z temp_prev vector_x hour gains_heat_cool f_hc_c =
    let n = at_most24 z.count in
    let es = z.building_elements in
    let loss = convective_loss_at c es temp_prev vector_x in
    let of_direction : HeatFlowDirection → Float = λ d. sum_from0 (terms_where (λ e. is_direction (direction_at c es temp_prev e) d) loss n 0) in
    record {
      fabric_int_air_convective = sum_from0 (terms 0 n loss);
      fabric_int_sol = (one64 -ᶠ c.f_sol_c) *ᶠ hour.gains_solar;
      fabric_int_int_gains = (one64 -ᶠ c.f_int_c) *ᶠ hour.gains_internal;
      fabric_int_heat_cool = (one64 -ᶠ f_hc_c) *ᶠ gains_heat_cool;
      fabric_int_air_convective_horizontal = of_direction Horizontal;
      fabric_int_air_convective_upwards = of_direction Upwards;
      fabric_int_air_convective_downwards = of_direction Downwards;
    }

-- at the external boundary, of one element with outer surface temperature t
module _ (e : Element) (h : ElementHour) (t : Float) where
  abbrev pub convective_heat : Float
  convective_heat = e.area *ᶠ e.h_ce *ᶠ (h.temp_ext -ᶠ t)

  abbrev pub radiative_heat : Float
  radiative_heat = e.area *ᶠ e.h_re *ᶠ (h.temp_ext -ᶠ t)

  abbrev pub solar_heat : Float
  solar_heat = e.area *ᶠ e.solar_absorption_coeff *ᶠ solar_irradiance h

  abbrev pub sky_heat : Float
  sky_heat = e.area *ᶠ neg e.therm_rad_to_sky

  -- for the sum of its kind: the first product is grouped otherwise than in `convective_heat`
  abbrev pub fabric_ext : Float
  fabric_ext = e.area *ᶠ (e.h_ce *ᶠ (h.temp_ext -ᶠ t)) +ᶠ radiative_heat +ᶠ solar_heat +ᶠ sky_heat

abbrev pub is_kind : (kind k : Kind) → Bool
is_kind kind k = eqb (kind_number k) (kind_number kind)

module _ (z : Zone) (hour : Conditions) (vector_x : List Float) where
  -- one of these heats, of element e
  abbrev pub heat_at : (Element → ElementHour → Float → Float) → ℕ → Float
  heat_at heat e = heat (element z.building_elements e) (element_hour hour.elements e) (outer_surface (zone_two_nodes z) vector_x e)

  -- of n elements from element e on, the terms of those whose kind counts
  abbrev pub terms_of_kind : (counts : Kind → Bool) → (n e : ℕ) → List Float
  terms_of_kind counts n e = terms_where (λ e. counts (element z.building_elements e).kind) (heat_at fabric_ext) n e

-- nine plain sums, four over all elements and five by kind; a party wall counts with the unconditioned spaces
abbrev pub external_boundary : Zone → Conditions → (vector_x : List Float) → HeatBalanceAirNode → (gains_heat_cool : Float) → HeatBalanceExternalBoundary
external_boundary z hour vector_x a gains_heat_cool =
    let n = at_most24 z.count in
    let over_all : (Element → ElementHour → Float → Float) → Float = λ heat. sum_from0 (terms 0 n (heat_at z hour vector_x heat)) in
    let of_kind : (Kind → Bool) → Float = λ counts. sum_from0 (terms_of_kind z hour vector_x counts n 0) in
    record {
      solar_gains = hour.gains_solar;
      internal_gains = hour.gains_internal;
      heating_or_cooling_system_gains = gains_heat_cool;
      thermal_bridges = a.thermal_bridges;
      infiltration_ventilation = a.infiltration_ventilation;
      fabric_ext_air_convective = over_all convective_heat;
      fabric_ext_air_radiative = over_all radiative_heat;
      fabric_ext_sol = over_all solar_heat;
      fabric_ext_sky = over_all sky_heat;
      opaque_fabric_ext = of_kind (is_kind Opaque);
      transparent_fabric_ext = of_kind (is_kind Transparent);
      ground_fabric_ext = of_kind (is_kind Ground);
      ztc_fabric_ext = of_kind (is_kind AdjacentConditionedSpace);
      ztu_fabric_ext = of_kind (λ k. is_kind AdjacentUnconditionedSpaceSimple k || is_kind PartyWall k);
    }

unfoldable pub heat_balance :
    Coefficients → Zone → (temp_prev : List Float) → Conditions → (delta_t gains_heat_cool f_hc_c ach : Float) → (vector_x : List Float)
    → HeatBalance
heat_balance c z temp_prev hour delta_t gains_heat_cool f_hc_c ach vector_x =
    let h_ve = calc_vent_heat_transfer_coeff z.volume ach in
    let a = air_node c (c_int c z) h_ve z.tb_heat_trans_coeff hour delta_t gains_heat_cool f_hc_c (air temp_prev) (air vector_x) in
    record {
      air_node = a;
      internal_boundary = internal_boundary c z temp_prev vector_x hour gains_heat_cool f_hc_c;
      external_boundary = external_boundary z hour vector_x a gains_heat_cool;
    }
