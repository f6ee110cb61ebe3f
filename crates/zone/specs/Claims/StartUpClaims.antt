-- What is claimed of start-up's passes: which of them settle, and how many went before.
-- Specification, Passes.
use Rattle.std.specs.Prelude.{ℕ, suc, ◌<◌, ◌≡◌, true, false, List, Float}
use Rattle.solver.specs.Result.{ok, refused}
use Rattle.zone.specs.declared.record.building_element.Coefficients.{Coefficients}
use Rattle.zone.specs.declared.record.zone_record.Zone.{Zone}
use Rattle.zone.specs.declared.calls.state.State.{State}
use Rattle.zone.specs.Record.Numbers.{not_settled}
use Rattle.zone.specs.Check.ZoneTest.{zone_test}
use Rattle.zone.specs.Calls.State.{slots_of, state_of}
use Rattle.zone.specs.Calls.StartUp.{close, pass, start_state, init_node_temps}

module _ (c : Coefficients) (z : Zone) where
  -- n passes lead from one vector to another; none of them is refused, and none settles
  pub data Unsettled : ℕ → List Float → List Float → Type 0 where
    start : {t : List Float} → Unsettled 0 t t
    further : {n : ℕ} {t t' u : List Float} → pass c z t ≡ ok t' → close z t t' ≡ false → Unsettled n t' u → Unsettled (suc n) t u

  -- a pass settles
  pub record Settles (t : List Float) : Type 0 where
    pub after : List Float
    pub passed : pass c z t ≡ ok after
    pub settled : close z t after ≡ true

  -- settled temperatures: fewer passes than the limit lead to them, none of which settles, and the next one does
  pub record SettledAt (limit : ℕ) (t u : List Float) : Type 0 where
    pub passes : ℕ
    pub fewer : passes < limit
    pub unsettled : Unsettled passes t u
    pub settles : Settles u

  -- start-up's own passes: as many as the zone's limit, from the temperatures before the first
  abbrev pub LimitUnsettled : List Float → Type 0
  LimitUnsettled u = Unsettled z.start_up_limit (slots_of z (start_state z)) u

  abbrev pub SettledInLimit : List Float → Type 0
  SettledInLimit u = SettledAt z.start_up_limit (slots_of z (start_state z)) u

  -- 15 means that no pass up to the limit settled, and if none does, 15 is the answer
  abbrev pub StartUpNotSettled : Type 0
  StartUpNotSettled = (j : ℕ) → init_node_temps c z ≡ refused not_settled j → (u : List Float) × LimitUnsettled u

  abbrev pub StartUpIsNotSettled : Type 0
  StartUpIsNotSettled = (u : List Float) → zone_test z ≡ ok tt → LimitUnsettled u → init_node_temps c z ≡ refused not_settled 0

  -- an accepted start-up is settled, and settled temperatures are its answer
  abbrev pub StartUpSettled : Type 0
  StartUpSettled = (s : State) → init_node_temps c z ≡ ok s → (u : List Float) × SettledInLimit u × (state_of z u ≡ s)

  abbrev pub StartUpIsSettled : Type 0
  StartUpIsSettled = (u : List Float) → zone_test z ≡ ok tt → SettledInLimit u → init_node_temps c z ≡ ok (state_of z u)
