-- The heat balance's convective total and its three parts as the code has them: all in one pass over the elements. `repeat 0 n (add_loss_at ..) no_convection`
-- holds the four sums of HeatBalance's `internal_boundary`.
use Rattle.std.specs.Prelude.{ℕ, List, Float}
use Rattle.solver.specs.F64.{◌+ᶠ◌, ◌-ᶠ◌, ◌*ᶠ◌, zero64, one64}
use Rattle.zone.specs.declared.record.building_element.Element.{Element}
use Rattle.zone.specs.declared.record.building_element.Coefficients.{Coefficients}
use Rattle.zone.specs.declared.record.building_element.HeatFlowDirection.{HeatFlowDirection}
use Rattle.zone.specs.declared.record.building_element.HeatFlowDirection.TheVariants.{Horizontal, Upwards, Downwards}
use Rattle.zone.specs.declared.format.conditions.Conditions.{Conditions}
use Rattle.zone.specs.declared.physics.balance.HeatBalanceInternalBoundary.{HeatBalanceInternalBoundary}
use Rattle.zone.specs.declared.physics.convection.ConvectiveSums.{ConvectiveSums}
use Rattle.zone.specs.Physics.System.{direction_at}
use Rattle.zone.specs.Physics.HeatBalance.{convective_loss_at}

-- to the total, and to the sum of its direction
abbrev pub add_loss : HeatFlowDirection → (x : Float) → ConvectiveSums → ConvectiveSums
add_loss Horizontal x s = record { total = s.total +ᶠ x; horizontal = s.horizontal +ᶠ x; upwards = s.upwards; downwards = s.downwards }
add_loss Upwards x s = record { total = s.total +ᶠ x; horizontal = s.horizontal; upwards = s.upwards +ᶠ x; downwards = s.downwards }
add_loss Downwards x s = record { total = s.total +ᶠ x; horizontal = s.horizontal; upwards = s.upwards; downwards = s.downwards +ᶠ x }

abbrev pub no_convection : ConvectiveSums
no_convection = record { total = zero64; horizontal = zero64; upwards = zero64; downwards = zero64 }

abbrev pub add_loss_at : Coefficients → List Element → (temp_prev vector_x : List Float) → ℕ → ConvectiveSums → ConvectiveSums
add_loss_at c es temp_prev vector_x e s = add_loss (direction_at c es temp_prev e) (convective_loss_at c es temp_prev vector_x e) s

abbrev pub internal_boundary_from : Coefficients → ConvectiveSums → Conditions → (gains_heat_cool f_hc_c : Float) → HeatBalanceInternalBoundary
internal_boundary_from c s hour gains_heat_cool f_hc_c =
    record {
      fabric_int_air_convective = s.total;
      fabric_int_sol = (one64 -ᶠ c.f_sol_c) *ᶠ hour.gains_solar;
      fabric_int_int_gains = (one64 -ᶠ c.f_int_c) *ᶠ hour.gains_internal;
      fabric_int_heat_cool = (one64 -ᶠ f_hc_c) *ᶠ gains_heat_cool;
      fabric_int_air_convective_horizontal = s.horizontal;
      fabric_int_air_convective_upwards = s.upwards;
      fabric_int_air_convective_downwards = s.downwards;
    }
