-- The hour's calculations in the calls: what the hour's answer says of a demand, an hour step, an hour after another and one time step.
use Rattle.std.proofs.Common.{◌≡◌, refl, sym, List, ℕ, Float}
use Rattle.std.specs.Prelude.{Ok, Err}
use Rattle.std.specs.Prelude as Rust
use Rattle.solver.specs.F64.{◌+ᶠ◌}
use Rattle.solver.specs.Result.{Result, ok, refused, bind}
use Rattle.zone.specs.declared.record.refusal.Refusal.{Refusal}
use Rattle.zone.specs.declared.record.zone_record.Zone.{Zone}
use Rattle.zone.specs.declared.format.conditions.Conditions.{Conditions}
use Rattle.zone.specs.declared.format.conditions.FixedRate.{FixedRate}
use Rattle.zone.specs.Physics.HeatBalance.{heat_balance}
use Rattle.zone.specs.declared.calls.state.State.{State}
use Rattle.zone.specs.declared.calls.state.Demand.{Demand}
use Rattle.zone.specs.Calls.State.{slots_of, state_of}
use Rattle.zone.specs.Hour.Demand.{delta_t, gains_heat_cool, temperatures_with, space_heat_cool_demand}
use Rattle.zone.specs.Calls.Hour.{tested_hour_and_limits, tested_step, step, delivered_by, convective_share, hour_step}
use Rattle.zone.specs.declared.hour.hour.Meeting.TheVariants.{NotMet, WithGains}
use Rattle.zone.specs.declared.hour.rule.Rule.{Rule}
use Rattle.zone.specs.declared.physics.balance.HeatCoolGains.{HeatCoolGains}
use Rattle.zone.specs.Answers.{answered, answered_with}
use Rattle.zone.specs.Calls.NextHour.{next_hour}
use Rattle.zone.specs.Inner.Hour.{demand_solved, step_balance, stepped}
use Rattle.zone.specs.declared.record.building_element.Coefficients.{Coefficients}

module _ (co : Coefficients) where
  -- ---- the hour, solved

  -- the demand, where nothing is met
  pub demand_solved_lem : (z : Zone) (t : List Float) (h : Conditions) (before : List Float)
      → space_heat_cool_demand co z t h ≡ bind (demand_solved co z t h NotMet before) λ u. ok u.0
  unfolding demand_solved
  demand_solved_lem z t h before = go (space_heat_cool_demand co z t h)
    where
      go : (x : Result Demand) → x ≡ bind {A = Demand × List Float} (bind x λ d. ok (d, before)) λ u. ok u.0
      go (ok d) = refl
      go (refused n i) = refl

  -- the hour step
  module _ (fixed : FixedRate) (z : Zone) (r : Rule) (s : State) (bytes : List ℕ) (h : Conditions) (read : tested_step fixed z r.version r.limits s bytes ≡ ok h) (t : List Float) (t_is : t ≡ slots_of z s) (before : List Float) where
    hour_solved_lem : hour_step fixed co z r.version r.limits s bytes ≡ bind (demand_solved co z t h (WithGains r) before) (stepped co z r t h)
    unfolding hour_step step demand_solved
    hour_solved_lem = go (space_heat_cool_demand co z t h) refl
      where
        last : (d : Demand) → space_heat_cool_demand co z t h ≡ ok d → (y : Result (List Float))
            → temperatures_with co z t h (gains_heat_cool h +ᶠ delivered_by r.version r.limits h d) (convective_share r.version h (delivered_by r.version r.limits h d) (gains_heat_cool h +ᶠ delivered_by r.version r.limits h d)) d.ach_cooling ≡ y
            → hour_step fixed co z r.version r.limits s bytes ≡ bind (demand_solved co z t h (WithGains r) before) (stepped co z r t h)
        last d p (ok after) q = rw (read, ← t_is, p, q) refl
        last d p (refused n i) q = rw (read, ← t_is, p, q) refl

        go : (x : Result Demand) → space_heat_cool_demand co z t h ≡ x → hour_step fixed co z r.version r.limits s bytes ≡ bind (demand_solved co z t h (WithGains r) before) (stepped co z r t h)
        go (ok d) p = last d p _ refl
        go (refused n i) p = rw (read, ← t_is, p) refl

  -- the same without the heat balance
  module _ (fixed : FixedRate) (z : Zone) (r : Rule) (s : State) (bytes : List ℕ) (h : Conditions) (read : tested_hour_and_limits fixed z r.version r.limits s bytes ≡ ok h) (t : List Float) (t_is : t ≡ slots_of z s) (before : List Float) where
    next_solved : next_hour fixed co z r.version r.limits s bytes ≡ bind (demand_solved co z t h (WithGains r) before) λ u. ok (u.0, state_of z u.1)
    unfolding next_hour demand_solved
    next_solved = go (space_heat_cool_demand co z t h) refl
      where
        last : (d : Demand) → space_heat_cool_demand co z t h ≡ ok d → (y : Result (List Float))
            → temperatures_with co z t h (gains_heat_cool h +ᶠ delivered_by r.version r.limits h d) (convective_share r.version h (delivered_by r.version r.limits h d) (gains_heat_cool h +ᶠ delivered_by r.version r.limits h d)) d.ach_cooling ≡ y
            → next_hour fixed co z r.version r.limits s bytes ≡ bind (demand_solved co z t h (WithGains r) before) λ u. ok (u.0, state_of z u.1)
        last d p (ok after) q = rw (read, ← t_is, p, q) refl
        last d p (refused n i) q = rw (read, ← t_is, p, q) refl

        go : (x : Result Demand) → space_heat_cool_demand co z t h ≡ x → next_hour fixed co z r.version r.limits s bytes ≡ bind (demand_solved co z t h (WithGains r) before) λ u. ok (u.0, state_of z u.1)
        go (ok d) p = last d p _ refl
        go (refused n i) p = rw (read, ← t_is, p) refl

  -- ---- what the answers of an hour say

  -- of a demand that is not met
  pub demand_answered : (z : Zone) (t : List Float) (h : Conditions) (before : List Float) (r : Rust.Result Demand Refusal) (after : List Float)
      → answered_with r after ≡ demand_solved co z t h NotMet before → answered r ≡ space_heat_cool_demand co z t h
  demand_answered z t h before (Ok d) after e = rw (demand_solved_lem z t h before, ← e) refl
  demand_answered z t h before (Err n) after e = rw (demand_solved_lem z t h before, ← e) refl

  -- of an hour step
  pub hour_untested : (fixed : FixedRate) (z : Zone) (r : Rule) (s : State) (bytes : List ℕ) (n i : ℕ) → refused n i ≡ tested_step fixed z r.version r.limits s bytes
      → refused n i ≡ hour_step fixed co z r.version r.limits s bytes
  unfolding hour_step
  hour_untested fixed z r s bytes n i e = rw (← e) refl

  module _ (fixed : FixedRate) (z : Zone) (r : Rule) (s : State) (bytes : List ℕ) (h : Conditions) (read : ok h ≡ tested_step fixed z r.version r.limits s bytes)
      (t before : List Float) (t_is : t ≡ slots_of z s) where
    pub hour_refused : (n i : ℕ) → refused n i ≡ demand_solved co z t h (WithGains r) before → refused n i ≡ hour_step fixed co z r.version r.limits s bytes
    hour_refused n i e = rw (hour_solved_lem fixed z r s bytes h (sym read) t t_is before, ← e) refl

    pub hour_accepted : (d : Demand) (after : List Float) → ok (d, after) ≡ demand_solved co z t h (WithGains r) before
        → ok (record { demand = d; state = state_of z after; balance = step_balance co z t h r d after }) ≡ hour_step fixed co z r.version r.limits s bytes
    hour_accepted d after e = rw (hour_solved_lem fixed z r s bytes h (sym read) t t_is before, ← e) refl

  -- of an hour after another
  pub next_untested : (fixed : FixedRate) (z : Zone) (r : Rule) (s : State) (bytes : List ℕ) (n i : ℕ) → refused n i ≡ tested_hour_and_limits fixed z r.version r.limits s bytes
      → refused n i ≡ next_hour fixed co z r.version r.limits s bytes
  unfolding next_hour
  next_untested fixed z r s bytes n i e = rw (← e) refl

  module _ (fixed : FixedRate) (z : Zone) (r : Rule) (s : State) (bytes : List ℕ) (h : Conditions) (read : ok h ≡ tested_hour_and_limits fixed z r.version r.limits s bytes)
      (t before : List Float) (t_is : t ≡ slots_of z s) where
    pub next_refused : (n i : ℕ) → refused n i ≡ demand_solved co z t h (WithGains r) before → refused n i ≡ next_hour fixed co z r.version r.limits s bytes
    next_refused n i e = rw (next_solved fixed z r s bytes h (sym read) t t_is before, ← e) refl

    pub next_accepted : (d : Demand) (after : List Float) → ok (d, after) ≡ demand_solved co z t h (WithGains r) before
        → ok (d, state_of z after) ≡ next_hour fixed co z r.version r.limits s bytes
    next_accepted d after e = rw (next_solved fixed z r s bytes h (sym read) t t_is before, ← e) refl

  -- of one time step
  module _ (z : Zone) (s : State) (h : Conditions) (g : HeatCoolGains) (ach : Float) (t : List Float) (t_is : t ≡ slots_of z s) where
    pub step_refused : (n i : ℕ) → refused n i ≡ temperatures_with co z t h g.gains_heat_cool g.f_hc_c ach → refused n i ≡ step co z s h g.gains_heat_cool g.f_hc_c ach
    unfolding step
    step_refused n i e = rw (← t_is, ← e) refl

    pub step_accepted : (after : List Float) → ok after ≡ temperatures_with co z t h g.gains_heat_cool g.f_hc_c ach
        → step co z s h g.gains_heat_cool g.f_hc_c ach ≡ ok (state_of z after, heat_balance co z t h (delta_t h) g.gains_heat_cool g.f_hc_c ach after)
    unfolding step
    step_accepted after e = rw (← t_is, ← e) refl
