-- What the calls return and leave, from the structure of the head that they are given, and from what the book answers.
use Rattle.std.proofs.Common.{ℕ, ◌≡◌, refl, ap, List, Float}
use Rattle.zone.specs.Promise.{Result, ok, refused, bind}
use Rattle.zone.specs.declared.record.zone_record.Zone.{Zone}
use Rattle.zone.specs.declared.format.conditions.FixedRate.TheVariants.{Retired}
use Rattle.zone.specs.Record.BuildingElement.{standard_coefficients}
use Rattle.zone.specs.Check.ZoneTest.{zone_test}
use Rattle.zone.specs.Inner.Head.{structured_head}
use Rattle.zone.specs.Calls.State.{operative}
use Rattle.zone.specs.Calls.Hour.{demand, update_temperatures, hour_step}
use Rattle.zone.specs.Calls.StartUp.{init_node_temps}
use Rattle.zone.specs.Calls.Why.{why}
use Rattle.zone.proofs.Promise.{head_judged, head_as_tested, start_up_judges, operative_judges, demand_judges, update_judges, hour_judges, why_judges}
use Rattle.book.specs.Model.Calls as Book
use Rattle.book.specs.Year.{Item, hour_item, Carried, year_interface}
use Rattle.hem_zone.specs.Code.{answer_code, lent_after, answered}
use Rattle.hem_zone.specs.Inner.Answers.{by_answer, by_outcome}
use Rattle.hem_zone.specs.Arrays.{state_in, limits_of, demand_out}
use Rattle.hem_zone.specs.Zone.{with_zone, start_up_out, update_out, hour_out, hem_head_outcome, hem_start_up_outcome, hem_operative_outcome, hem_demand_outcome, hem_update_outcome, hem_hour_step_outcome}
use Rattle.hem_zone.specs.Why.{why_out, hem_why_outcome}
use Rattle.hem_zone.specs.Book.{CBookState, book_state_of, c_book_state_of, book_out, hem_begin_outcome, hem_append_outcome, hem_take_up_outcome}

-- ---- the calls on the zone of a head: each refuses a zone that the zone's test refuses, with its number and index, so of the head it needs no more than the structure

module _ {A B : Type 0} (written : A → B) (before : B) (head : List ℕ) (f : Zone → Result A) (judges : (z : Zone) (a b : ℕ) → zone_test z ≡ refused a b → f z ≡ refused a b) where
  by_structure : answered written before (with_zone head f) ≡ answered written before (bind (structured_head head) (λ h. f h.zone))
  unfolding with_zone
  by_structure = ap (answered written before) (head_judged (λ h. f h.zone) (λ h. judges h.zone) head)

module _ (head : List ℕ) where
  pub head_by_structure : hem_head_outcome head ≡ answer_code (bind (structured_head head) λ h. bind (zone_test h.zone) λ _. ok h)
  unfolding hem_head_outcome
  head_by_structure = ap answer_code (head_as_tested head)

  module _ (temps : List Float) (nodes : ℕ) where
    pub start_up_by_structure : hem_start_up_outcome head temps nodes ≡ answered start_up_out (temps, nodes) (bind (structured_head head) λ h. init_node_temps standard_coefficients h.zone)
    unfolding hem_start_up_outcome
    start_up_by_structure = by_structure start_up_out (temps, nodes) head (init_node_temps standard_coefficients) (λ z a b q. start_up_judges z a b q standard_coefficients)

    pub operative_by_structure : (before : Float) → hem_operative_outcome head temps nodes before ≡ answered (λ t. t) before (bind (structured_head head) λ h. operative h.zone (state_in temps nodes))
    unfolding hem_operative_outcome
    operative_by_structure before = by_structure (λ t. t) before head (λ z. operative z (state_in temps nodes)) (λ z a b q. operative_judges z a b q (state_in temps nodes))

    module _ (conditions : List ℕ) where
      pub demand_by_structure : (out : List Float)
          → hem_demand_outcome head temps nodes conditions out
          ≡ answered demand_out out (bind (structured_head head) λ h. demand Retired standard_coefficients h.zone (state_in temps nodes) conditions)
      unfolding hem_demand_outcome
      demand_by_structure out =
          by_structure demand_out out head (λ z. demand Retired standard_coefficients z (state_in temps nodes) conditions)
          (λ z a b q. demand_judges z a b q standard_coefficients (state_in temps nodes) conditions Retired)

      pub why_by_structure : (reason load : ℕ)
          → hem_why_outcome head temps nodes conditions reason load
          ≡ answered why_out (reason, load) (bind (structured_head head) λ h. why standard_coefficients h.zone (state_in temps nodes) conditions)
      unfolding hem_why_outcome
      why_by_structure reason load =
          by_structure why_out (reason, load) head (λ z. why standard_coefficients z (state_in temps nodes) conditions)
          (λ z a b q. why_judges z a b q standard_coefficients (state_in temps nodes) conditions)

      pub update_by_structure : (gains fraction rate : Float) (balance : List Float)
          → hem_update_outcome head temps nodes conditions gains fraction rate balance
          ≡ answered update_out (temps, balance) (bind (structured_head head) λ h. update_temperatures standard_coefficients h.zone (state_in temps nodes) conditions gains fraction rate)
      unfolding hem_update_outcome
      update_by_structure gains fraction rate balance =
          by_structure update_out (temps, balance) head (λ z. update_temperatures standard_coefficients z (state_in temps nodes) conditions gains fraction rate)
          (λ z a b q. update_judges z a b q standard_coefficients (state_in temps nodes) conditions gains fraction rate)

      pub hour_by_structure : (version : ℕ) (heating_limit cooling_limit : Float) (out balance : List Float)
          → hem_hour_step_outcome head temps nodes conditions version heating_limit cooling_limit out balance
          ≡ answered hour_out (temps, out, balance)
          (bind (structured_head head) λ h. hour_step Retired standard_coefficients h.zone version (limits_of heating_limit cooling_limit) (state_in temps nodes) conditions)
      unfolding hem_hour_step_outcome
      hour_by_structure version heating_limit cooling_limit out balance =
          by_structure hour_out (temps, out, balance) head (λ z. hour_step Retired standard_coefficients z version (limits_of heating_limit cooling_limit) (state_in temps nodes) conditions)
          (λ z a b q. hour_judges z a b q standard_coefficients (state_in temps nodes) conditions Retired version (limits_of heating_limit cooling_limit))

append_judges : (given : Book.BookState Carried) (i : Item) (buf : List ℕ) (z : Zone) (a b : ℕ) → zone_test z ≡ refused a b → Book.append_res year_interface z given i buf ≡ refused a b
unfolding Book.append_res
append_judges given i buf z a b q = rw q

pub append_by_structure : (head buf : List ℕ) (held : CBookState) (conditions : List ℕ) (version : ℕ) (heating_limit cooling_limit : Float)
    → hem_append_outcome head buf held conditions version heating_limit cooling_limit
    ≡ answered book_out (buf, held)
    (bind (structured_head head) λ h. Book.append_res year_interface h.zone (book_state_of held) (hour_item version conditions (limits_of heating_limit cooling_limit)) buf)
unfolding hem_append_outcome
append_by_structure head buf held conditions version heating_limit cooling_limit =
    by_structure book_out (buf, held) head (λ z. Book.append_res year_interface z (book_state_of held) (hour_item version conditions (limits_of heating_limit cooling_limit)) buf)
    (append_judges (book_state_of held) (hour_item version conditions (limits_of heating_limit cooling_limit)) buf)

-- ---- the calls on a book, from the book's answers

pub outcome_answered : (held : CBookState) (buf : List ℕ) (d : Result (Book.BookState Carried × List ℕ)) → answered book_out (buf, held) d ≡ by_outcome (Book.outcome_of (book_state_of held) buf d) held
unfolding answered answer_code lent_after by_answer
outcome_answered held buf (ok r) = refl
outcome_answered held buf (refused number index) = refl

pub begin_by_answer : (head buf : List ℕ) (held : CBookState) → hem_begin_outcome head buf held ≡ by_outcome (Book.begin year_interface head (book_state_of held) buf) held
unfolding Book.begin hem_begin_outcome
begin_by_answer head buf held = outcome_answered held buf (Book.begin_res year_interface head buf)

pub take_up_by_answer : (bytes : List ℕ) (held : CBookState) → hem_take_up_outcome bytes held ≡ by_answer (Book.take_up year_interface (book_state_of held) bytes) held
unfolding Book.take_up hem_take_up_outcome answered answer_code lent_after by_answer
take_up_by_answer bytes held = go (Book.take_up_res year_interface bytes)
  where
    go : (d : Result (Book.BookState Carried)) → answered c_book_state_of held d ≡ by_answer (Book.answer_from (book_state_of held) d) held
    go (ok v) = refl
    go (refused number index) = refl
