-- An hour of a zone and a version that are tested: the entry that the zone's answer has.
use Rattle.std.proofs.Common.{ℕ, ◌≡◌, sym, ap, ◌∙◌, true, false, List, ◌++◌, leb, length}
use Rattle.std.specs.Prelude.{Ok, Err}
use Rattle.zone.specs.Promise.{Result, ok, refused}
use Rattle.zone.specs.Record.BuildingElement.{standard_coefficients}
use Rattle.zone.specs.Check.ZoneTest.{zone_test}
use Rattle.zone.specs.Calls.NextHour.{next_hour, next_hour_reply}
use Rattle.zone.specs.declared.record.zone_record.Zone.{Zone}
use Rattle.zone.specs.declared.calls.state.State.{State}
use Rattle.zone.specs.declared.calls.state.Demand.{Demand}
use Rattle.zone.specs.declared.calls.state.Reply.{Reply}
use Rattle.zone.specs.declared.record.refusal.Refusal.{Refusal}
use Rattle.zone.specs.Answers.{number_of, index_of, answered}
use Rattle.zone.specs.Calls.Answers.{reply_in}
use Rattle.zone.proofs.Promise.{and_true, next_then, ok_inj, ok_not_refused}
use Rattle.zone.specs.Calls.Hour.{hour_version, has_limits}
use Rattle.zone.specs.Format.Limits.{limits_in}
use Rattle.zone.specs.declared.format.conditions.FixedRate.{FixedRate}
use Rattle.zone.specs.declared.format.limits.Limits.{Limits}
use Rattle.book.specs.Numbers.{false_entry}
use Rattle.book.specs.Layout.{limits_length}
use Rattle.book.specs.Entry.{entry_of}
use Rattle.book.specs.Year.{hour, Carried, carried, may_follow, hour_entry}
use Rattle.book.proofs.Laws.Body.{by_parts}

module _ (s : State) where
  next_no_lem : (d : Result (Demand × State)) (n j : ℕ) → (next_hour_reply s d).0 ≡ refused n j → d ≡ refused n j
  next_no_lem (ok a) n j f = ok_not_refused a.0 n j f
  next_no_lem (refused m k) n j f = let p : m ≡ n = cc in let q : k ≡ j = cc in λ i. refused (p i) (q i)

  next_no : (d : Result (Demand × State)) (x : Reply Demand) → reply_in x ≡ next_hour_reply s d → (r : Refusal) → x.answer ≡ Err r → d ≡ refused (number_of r) (index_of r)
  next_no d x e r f = next_no_lem d _ _ (sym (ap (λ (y : Result Demand × State). y.0) e) ∙ ap answered f)

  next_yes : (d : Result (Demand × State)) (x : Reply Demand) → reply_in x ≡ next_hour_reply s d → (a : Demand) → x.answer ≡ Ok a → d ≡ ok (a, x.state)
  next_yes (ok r) x e a f =
      let q : r.0 ≡ a = ok_inj (sym (ap (λ (y : Result Demand × State). y.0) e) ∙ ap answered f) in
      λ i. ok (q i, (sym e i).1)
  next_yes (refused m k) x e a f = ok_not_refused a m k (sym (ap answered f) ∙ ap (λ (y : Result Demand × State). y.0) e)

-- the body is the conditions i and the limits' bytes j; l is what the zone is given, the limits in j where the version has any
module _ (fixed : FixedRate) (z : Zone) (tested : zone_test z ≡ ok tt) (s : Carried) (version : ℕ) (follows : may_follow s.last_version version ≡ true)
    (i j : List ℕ) (long : length j ≡ limits_length version) (l : Limits) (holds : has_limits version ≡ true → limits_in j ≡ l) (x : Reply Demand)
    (e : reply_in x ≡ next_hour_reply s.state (next_hour fixed standard_coefficients z version l s.state i)) where
  known : hour_version version ≡ true
  known = (and_true (hour_version version) (leb s.last_version version) follows).0

  pub step_refused : (r : Refusal) → x.answer ≡ Err r → (count : ℕ) → hour_entry fixed z count s (hour version (i ++ j)) ≡ refused (number_of r) (index_of r)
  unfolding hour_entry
  step_refused r f count =
      rw (follows, by_parts version i j long fixed z s.state l holds)
      (next_then fixed standard_coefficients z version l s.state i tested known (λ d after. ok (record { bytes = entry_of z version (i ++ j) d after; after = carried after version }))
      ∙ rw (next_no s.state (next_hour fixed standard_coefficients z version l s.state i) x e r f))

  -- what the hour step gives, as an entry
  pub step_given : (d : Demand) → x.answer ≡ Ok d → (count : ℕ)
      → hour_entry fixed z count s (hour version (i ++ j)) ≡ ok (record { bytes = entry_of z version (i ++ j) d x.state; after = carried x.state version })
  unfolding hour_entry
  step_given d f count =
      rw (follows, by_parts version i j long fixed z s.state l holds)
      (next_then fixed standard_coefficients z version l s.state i tested known (λ y after. ok (record { bytes = entry_of z version (i ++ j) y after; after = carried after version }))
      ∙ rw (next_yes s.state (next_hour fixed standard_coefficients z version l s.state i) x e d f))

-- a version that may not follow
pub step_not_next : (fixed : FixedRate) (z : Zone) (s : Carried) (version : ℕ) → may_follow s.last_version version ≡ false → (i : List ℕ) (k : ℕ) → hour_entry fixed z k s (hour version i) ≡ refused false_entry k
unfolding hour_entry
step_not_next fixed z s version p i k = rw p
