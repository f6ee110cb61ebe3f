-- Fixed rates retired: what the refusal does, and what it leaves.
-- Specification, Fixed rate.
use Rattle.std.specs.Prelude.{ℕ, ◌≡◌, ◌≤◌, ◌↔◌, true, false, List, length, Float}
use Rattle.solver.specs.Result.{ok, refused}
use Rattle.zone.specs.Record.Numbers.{conditions_code}
use Rattle.zone.specs.Format.Layout.{conditions_length}
use Rattle.zone.specs.Format.FixedRate.{is_fixed, rate_twice}
use Rattle.zone.specs.Format.Conditions.{conditions_of}
use Rattle.zone.specs.declared.record.building_element.Coefficients.{Coefficients}
use Rattle.zone.specs.declared.record.zone_record.Zone.{Zone}
use Rattle.zone.specs.declared.format.conditions.Conditions.{Conditions}
use Rattle.zone.specs.declared.format.conditions.FixedRate.TheVariants.{Retired, StillTaken}
use Rattle.zone.specs.declared.format.limits.Limits.{Limits}
use Rattle.zone.specs.declared.calls.state.State.{State}
use Rattle.zone.specs.Calls.State.{zone_and_state_test}
use Rattle.zone.specs.Calls.Hour.{tested, demand, update_temperatures, HourResult, hour_step}
use Rattle.zone.specs.Calls.Why.{why}

-- an hour with code 0, of the size that a zone's conditions have, behind a zone and a state that pass 4, 5 and 6
pub record FixedHour (z : Zone) (s : State) (bs : List ℕ) : Type 0 where
  pub tests : zone_and_state_test z s ≡ ok tt
  pub size : length bs ≡ conditions_length z.count
  pub fixed : is_fixed bs ≡ true

module _ (c : Coefficients) (z : Zone) (s : State) (bs : List ℕ) where
  -- demand, update and, by any version that hours have, hour step refuse such an hour with 8, whatever else it says and whatever is given beside it
  pub record CallsRefuse : Type 0 where
    pub demands : demand Retired c z s bs ≡ refused conditions_code 0
    pub updates : (gains fraction ach : Float) → update_temperatures c z s bs gains fraction ach ≡ refused conditions_code 0
    pub hour_steps : (version : ℕ) (l : Limits) → 1 ≤ version → version ≤ 3 → hour_step Retired c z version l s bs ≡ refused conditions_code 0

  -- Any other hour is the same to a call and where it is judged, refusals included. So the reasons refuse each of these just as the call's
  -- demand refuses it.
  pub record OtherHours : Type 0 where
    pub tests : tested Retired z s bs ≡ tested StillTaken z s bs
    pub demands : demand Retired c z s bs ≡ demand StillTaken c z s bs
    pub hour_steps : (version : ℕ) (l : Limits) → hour_step Retired c z version l s bs ≡ hour_step StillTaken c z version l s bs
    pub why_refuses : (number index : ℕ) → (why c z s bs ≡ refused number index) ↔ (demand Retired c z s bs ≡ refused number index)

pub record RetiredClaims (z : Zone) (bs : List ℕ) : Type 0 where
  -- it is refused with 8 where it has the size that a zone's conditions have, whatever its values are
  pub in_its_place : z.count ≤ 24 → length bs ≡ conditions_length z.count → is_fixed bs ≡ true → conditions_of Retired z bs ≡ refused conditions_code 0
  -- any other hour is taken or refused alike
  pub others : is_fixed bs ≡ false → conditions_of Retired z bs ≡ conditions_of StillTaken z bs
  -- and what is taken by a call is taken where it is judged
  pub still : (h : Conditions) → conditions_of Retired z bs ≡ ok h → conditions_of StillTaken z bs ≡ ok h
  -- so it is with the calls
  pub calls_refuse : (c : Coefficients) (s : State) → FixedHour z s bs → CallsRefuse c z s bs
  pub other_hours : (c : Coefficients) (s : State) → is_fixed bs ≡ false → OtherHours c z s bs

-- What an hour step gives is what an entry is judged by.
abbrev pub HourStill : Coefficients → Zone → Type 0
HourStill c z = (version : ℕ) (l : Limits) (s : State) (bytes : List ℕ) (r : HourResult)
    → hour_step Retired c z version l s bytes ≡ ok r → hour_step StillTaken c z version l s bytes ≡ ok r

-- An hour with the fixed rate that is judged true is, with code 1 and its rate twice, the same hour to the bit, and a call takes it: demand, state and heat
-- balance. (No other hour is rewritten.)
abbrev pub SameHour : Coefficients → Zone → Type 0
SameHour c z = (version : ℕ) (l : Limits) (s : State) (bytes : List ℕ) (r : HourResult) → is_fixed bytes ≡ true
    → hour_step StillTaken c z version l s bytes ≡ ok r → hour_step Retired c z version l s (rate_twice bytes) ≡ ok r
