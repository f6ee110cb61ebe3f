-- A head of which the structure is read, where what follows tests the zone in its start-up.
use Rattle.std.proofs.Common.{ℕ, ◌≤◌, ◌≡◌, refl, sym, ◌∙◌, List, length}
use Rattle.std.specs.Prelude.{Ok, Err}
use Rattle.std.specs.Prelude as Rust
use Rattle.zone.specs.Promise.{Result, ok, refused, bind}
use Rattle.zone.specs.Answers.{number_of, index_of, answered}
use Rattle.zone.specs.Record.BuildingElement.{standard_coefficients}
use Rattle.zone.specs.Format.Head.{ReadHead, head_of}
use Rattle.zone.specs.Inner.Head.{structured_head, head_read}
use Rattle.zone.specs.Check.ZoneTest.{zone_test}
use Rattle.zone.specs.Calls.StartUp.{init_node_temps}
use Rattle.zone.specs.declared.record.refusal.Refusal.{Refusal}
use Rattle.zone.specs.declared.record.zone_record.Zone.{Zone}
use Rattle.zone.specs.declared.calls.state.State.{State}
use Rattle.zone.proofs.Promise.{answered_no, answered_yes, head_no, head_yes, head_judged, start_up_judges, structured_within, ok_not_refused}
use Rattle.book.specs.Year.{Carried, carried, no_entry_version, start_up}

module _ (bs : List ℕ) (x : Rust.Result ℕ Refusal) (z : Zone) (e : head_read x z ≡ structured_head bs) where
  abbrev said : ℕ → ReadHead Zone
  said n = record { zone = z; length = n }

  pub head_inside : (n : ℕ) → x ≡ Ok n → n ≤ length bs
  head_inside n f = structured_within bs (said n) (head_yes (structured_head bs) x z e n f)

  -- what follows a head: its start-up first
  module _ {A : Type 0} (k : ReadHead Zone → Carried → Result A) where
    by_structure : bind (head_of bs) (λ y. bind (start_up y.zone) (k y)) ≡ bind (structured_head bs) (λ y. bind (start_up y.zone) (k y))
    by_structure = head_judged (λ y. bind (start_up y.zone) (k y)) (λ y a b q. rw (start_up_judges y.zone a b q standard_coefficients)) bs

    pub head_stops : (r : Refusal) → x ≡ Err r → bind (head_of bs) (λ y. bind (start_up y.zone) (k y)) ≡ refused (number_of r) (index_of r)
    head_stops r f = by_structure ∙ rw (head_no (structured_head bs) x z e r f)

    pub head_goes_on : (n : ℕ) → x ≡ Ok n → bind (head_of bs) (λ y. bind (start_up y.zone) (k y)) ≡ bind (start_up z) (k (said n))
    head_goes_on n f = by_structure ∙ rw (head_yes (structured_head bs) x z e n f)

-- a zone that starts up has passed its test
started_tested : (z : Zone) (s : State) → init_node_temps standard_coefficients z ≡ ok s → zone_test z ≡ ok tt
started_tested z s e = go (zone_test z) refl
  where
    go : (r : Result (Unit {0})) → zone_test z ≡ r → zone_test z ≡ ok tt
    go (ok _) q = q
    go (refused a b) q = ok_not_refused s a b (sym e ∙ start_up_judges z a b q standard_coefficients)

-- what start-up's answer says of the layers'
module _ (z : Zone) (x : Rust.Result State Refusal) (e : answered x ≡ init_node_temps standard_coefficients z) where
  pub start_up_passed : (s : State) → x ≡ Ok s → zone_test z ≡ ok tt
  start_up_passed s f = started_tested z s (answered_yes (init_node_temps standard_coefficients z) x e s f)

  pub starts : (s : State) → x ≡ Ok s → start_up z ≡ ok (carried s no_entry_version)
  starts s f = rw (answered_yes (init_node_temps standard_coefficients z) x e s f) refl

  pub starts_not : (r : Refusal) → x ≡ Err r → start_up z ≡ refused (number_of r) (index_of r)
  starts_not r f = rw (answered_no (init_node_temps standard_coefficients z) x e r f) refl
