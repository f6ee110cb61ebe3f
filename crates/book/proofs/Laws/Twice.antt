-- The body of an hour that is judged true, and of one with the fixed rate its rate twice: its two parts, and what an append gives for it.
use Rattle.std.proofs.Common.{ℕ, ◌-◌, ◌≤◌, ◌≡◌, refl, sym, ap, ◌∙◌, true, List, ◌++◌, arith, length, drop, take-append-drop, length-drop}
use Rattle.zone.specs.Promise.{ok}
use Rattle.zone.specs.Record.BuildingElement.{standard_coefficients}
use Rattle.zone.specs.Format.Layout.{first_element_hour}
use Rattle.zone.specs.Format.FixedRate.{is_fixed, rate_twice}
use Rattle.zone.specs.Calls.Hour.{hour_step}
use Rattle.zone.specs.declared.record.zone_record.Zone.{Zone}
use Rattle.zone.specs.declared.format.conditions.FixedRate.TheVariants.{Retired, StillTaken}
use Rattle.zone.proofs.Promise.{conditions_length_lem, twice_append}
use Rattle.zone.proofs.Claims.SameHour.{same_hour}
use Rattle.book.specs.Layout.{limits_length}
use Rattle.book.specs.Entry.{entry_of}
use Rattle.book.specs.Model.Interface.{Written}
use Rattle.book.specs.Year.{hour, body_conditions, body_limits, Carried, carried, hour_entry}
use Rattle.book.proofs.Laws.Body.{conditions_are, limits_are}
use Rattle.book.proofs.Laws.Accepted.{hour_body}
use Rattle.book.proofs.Laws.Interface.{HourEntered, step_hour}

module _ (z : Zone) (k : ℕ) (s : Carried) (version : ℕ) (body : List ℕ) (e : Written Carried) (p : hour_entry StillTaken z k s (hour version body) ≡ ok e) where
  abbrev made : HourEntered StillTaken z s version body e
  made = step_hour StillTaken z k s version body e p

  abbrev pub conditions : List ℕ
  conditions = body_conditions version body

  -- the limits' bytes behind the conditions
  abbrev pub behind : List ℕ
  behind = drop (length body - limits_length version) body

  pub parts : body ≡ conditions ++ behind
  parts = sym (take-append-drop (length body - limits_length version) body)

  pub long : first_element_hour ≤ length conditions
  long = omega (arith, conditions_length_lem standard_coefficients z s.state StillTaken version (body_limits version body) conditions made.result made.stepped)

  behind_long : length behind ≡ limits_length version
  behind_long = omega (arith, length-drop (length body - limits_length version) body, hour_body StillTaken z version s.state body made.result made.stepped)

  twice_parts : rate_twice body ≡ rate_twice conditions ++ behind
  twice_parts = ap rate_twice parts ∙ twice_append conditions behind long

  conditions_twice : body_conditions version (rate_twice body) ≡ rate_twice conditions
  conditions_twice = ap (body_conditions version) twice_parts ∙ conditions_are version (rate_twice conditions) behind behind_long

  limits_twice : body_limits version (rate_twice body) ≡ body_limits version body
  limits_twice =
      ap (body_limits version) twice_parts ∙ limits_are version (rate_twice conditions) behind behind_long
      ∙ sym (limits_are version conditions behind behind_long) ∙ ap (body_limits version) (sym parts)

  module _ (fixed : is_fixed conditions ≡ true) where
    pub stepped_twice : hour_step Retired standard_coefficients z version (body_limits version (rate_twice body)) s.state (body_conditions version (rate_twice body)) ≡ ok made.result
    stepped_twice =
        (λ t. hour_step Retired standard_coefficients z version (limits_twice t) s.state (conditions_twice t))
        ∙ same_hour standard_coefficients z version (body_limits version body) s.state conditions made.result fixed made.stepped

    -- the entry that an append gives
    abbrev pub written_twice : Written Carried
    written_twice = record { bytes = entry_of z version (rate_twice body) made.result.demand made.result.state; after = carried made.result.state version }

    pub entry_twice : hour_entry Retired z k s (hour version (rate_twice body)) ≡ ok written_twice
    unfolding hour_entry
    entry_twice = rw (made.follows, stepped_twice) refl
