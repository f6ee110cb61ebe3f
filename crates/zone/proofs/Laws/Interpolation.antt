-- What the interpolation of a demand answers, by its two tests.
use Rattle.std.proofs.Common.{◌≡◌, refl, sym, ◌∙◌, Bool, true, false, Float}
use Rattle.solver.specs.F64.{◌-ᶠ◌, ◌*ᶠ◌, ◌/ᶠ◌, decimal, zero64}
use Rattle.solver.specs.Closeness.{close_in_demand}
use Rattle.solver.specs.Result.{ok, refused}
use Rattle.zone.specs.Record.Numbers.{no_effect}
use Rattle.zone.specs.Hour.Demand.{interp_heat_cool_demand}

module _ (delta_t_h setpoint load temp_free temp_upper : Float) (t : Bool) (t_is : t ≡ close_in_demand (temp_upper -ᶠ temp_free) zero64) where
  -- a load without effect is refused whatever the setpoint is
  pub no_effect_told : t ≡ true → refused no_effect 0 ≡ interp_heat_cool_demand delta_t_h setpoint load temp_free temp_upper
  unfolding interp_heat_cool_demand
  no_effect_told e = rw (← t_is, e) refl

  module _ (effect : t ≡ false) (q : Bool) (q_is : q ≡ close_in_demand setpoint temp_free) where
    pub equal_told : q ≡ true → ok zero64 ≡ interp_heat_cool_demand delta_t_h setpoint load temp_free temp_upper
    unfolding interp_heat_cool_demand
    equal_told e = rw (← t_is, effect, ← q_is, e) refl
