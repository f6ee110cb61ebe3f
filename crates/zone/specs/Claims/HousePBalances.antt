-- The heat balances of House P's hours, worked out from Specification, Heat balance.
use Rattle.std.specs.Prelude.{List, [], ◌∷◌, Float}
use Rattle.std.specs.Float.Ieee.{neg}
use Rattle.solver.specs.F64.{decimal, zero64}
use Rattle.zone.specs.declared.physics.balance.HeatBalance.{HeatBalance}

abbrev minus_zero : Float
minus_zero = neg zero64

-- Everything stays at 20 and there are no gains: each temperature difference is +0.0, and so is each product without a minus. A sum begins with +0.0, which
-- a −0.0, as the sky's 1 × −0.0, leaves as it is.
abbrev pub balance_at_rest : HeatBalance
balance_at_rest =
    record {
      air_node =
          record {
            solar_gains = zero64;
            internal_gains = zero64;
            heating_or_cooling_system_gains = zero64;
            -- -(360000 / 3600) × (20 − 20)
            energy_to_change_internal_temperature = minus_zero;
            -- -(43.0625 × (20 − 20)), and at rate 0 -(0 × (20 − 20))
            thermal_bridges = minus_zero;
            infiltration_ventilation = minus_zero;
            -- -((((0.0 + 0.0) + 0.0) + −0.0) − (0.0 + 0.0))
            fabric_heat_loss = minus_zero;
          };
      internal_boundary =
          record {
            fabric_int_air_convective = zero64;
            fabric_int_sol = zero64;
            fabric_int_int_gains = zero64;
            fabric_int_heat_cool = zero64;
            fabric_int_air_convective_horizontal = zero64;
            fabric_int_air_convective_upwards = zero64;
            fabric_int_air_convective_downwards = zero64;
          };
      external_boundary =
          record {
            solar_gains = zero64;
            internal_gains = zero64;
            heating_or_cooling_system_gains = zero64;
            thermal_bridges = minus_zero;
            infiltration_ventilation = minus_zero;
            fabric_ext_air_convective = zero64;
            fabric_ext_air_radiative = zero64;
            fabric_ext_sol = zero64;
            fabric_ext_sky = zero64;
            opaque_fabric_ext = zero64;
            transparent_fabric_ext = zero64;
            ground_fabric_ext = zero64;
            ztc_fabric_ext = zero64;
            ztu_fabric_ext = zero64;
          };
    }

-- The hour that heats with 144 W, all of it convective, ends at 20.3125, 20.625 and 21.
abbrev pub balance_heated : HeatBalance
balance_heated =
    record {
      air_node =
          record {
            solar_gains = zero64;
            internal_gains = zero64;
            -- 1 × 144
            heating_or_cooling_system_gains = decimal 144 0;
            -- -(360000 / 3600) × (21 − 20)
            energy_to_change_internal_temperature = neg (decimal 100 0);
            -- -(43.0625 × (21 − 20)), and at rate 0 -(0 × (21 − 20))
            thermal_bridges = neg (decimal 430625 4);
            infiltration_ventilation = minus_zero;
            -- -((((0 + 0) + 144) − 100) − (43.0625 + 0))
            fabric_heat_loss = neg (decimal 9375 4);
          };
      internal_boundary =
          record {
            -- 1 × (2.5 × (21 − 20.625)), and 2.5 is horizontal
            fabric_int_air_convective = decimal 9375 4;
            fabric_int_sol = zero64;
            fabric_int_int_gains = zero64;
            -- (1 − 1) × 144
            fabric_int_heat_cool = zero64;
            fabric_int_air_convective_horizontal = decimal 9375 4;
            fabric_int_air_convective_upwards = zero64;
            fabric_int_air_convective_downwards = zero64;
          };
      external_boundary =
          record {
            solar_gains = zero64;
            internal_gains = zero64;
            heating_or_cooling_system_gains = decimal 144 0;
            thermal_bridges = neg (decimal 430625 4);
            infiltration_ventilation = minus_zero;
            -- 1 × 1 × (20 − 20.3125)
            fabric_ext_air_convective = neg (decimal 3125 4);
            -- 0.0 + 1 × 0 × (20 − 20.3125): the product is −0.0
            fabric_ext_air_radiative = zero64;
            fabric_ext_sol = zero64;
            fabric_ext_sky = zero64;
            opaque_fabric_ext = zero64;
            -- 0.0 + (1 × (1 × (20 − 20.3125)) + −0.0 + 0.0 + −0.0)
            transparent_fabric_ext = neg (decimal 3125 4);
            ground_fabric_ext = zero64;
            ztc_fabric_ext = zero64;
            ztu_fabric_ext = zero64;
          };
    }

-- the 28 values of a heat balance
abbrev pub values : HeatBalance → List Float
values b =
    let a = b.air_node in
    let i = b.internal_boundary in
    let e = b.external_boundary in
    a.solar_gains
    ∷ a.internal_gains
    ∷ a.heating_or_cooling_system_gains
    ∷ a.energy_to_change_internal_temperature
    ∷ a.thermal_bridges
    ∷ a.infiltration_ventilation
    ∷ a.fabric_heat_loss
    ∷ i.fabric_int_air_convective
    ∷ i.fabric_int_sol
    ∷ i.fabric_int_int_gains
    ∷ i.fabric_int_heat_cool
    ∷ i.fabric_int_air_convective_horizontal
    ∷ i.fabric_int_air_convective_upwards
    ∷ i.fabric_int_air_convective_downwards
    ∷ e.solar_gains
    ∷ e.internal_gains
    ∷ e.heating_or_cooling_system_gains
    ∷ e.thermal_bridges
    ∷ e.infiltration_ventilation
    ∷ e.fabric_ext_air_convective
    ∷ e.fabric_ext_air_radiative
    ∷ e.fabric_ext_sol
    ∷ e.fabric_ext_sky
    ∷ e.opaque_fabric_ext
    ∷ e.transparent_fabric_ext
    ∷ e.ground_fabric_ext
    ∷ e.ztc_fabric_ext
    ∷ e.ztu_fabric_ext
    ∷ []
