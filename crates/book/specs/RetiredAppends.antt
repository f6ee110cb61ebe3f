-- The fixed rate, at an append: an hour with rate code 0 is refused with 8, in its place in the order of tests, also where a cut took this very hour.
-- Specification, Fixed rate; Append; Order of tests.
use Rattle.std.specs.Prelude.{ℕ, ◌≤◌, ◌<◌, ◌≡◌, true, List, [], ◌∷◌, ◌++◌, length}
use Rattle.std.proofs.Math.Option.{some}
use Rattle.zone.specs.Record.Numbers.{conditions_code}
use Rattle.zone.specs.Format.FixedRate.{is_fixed, rate_twice}
use Rattle.zone.specs.declared.record.zone_record.Zone.{Zone}
use Rattle.zone.specs.declared.format.limits.Limits.{Limits}
use Rattle.zone.specs.Claims.FixedRate.{FixedHour}
use Rattle.book.specs.Layout.{most_entries, whole_length}
use Rattle.book.specs.Model.Calls.{BookState, refused_with, append}
use Rattle.book.specs.Model.Plain.{book, Snapshot, snapshot, used_bytes, WellFormed}
use Rattle.book.specs.Model.Run.{call_append, plain_make}
use Rattle.book.specs.Model.Claims.{kept_by}
use Rattle.book.specs.Year.{Item, hour, body_conditions, Carried, may_follow, hour_item, year_interface}

-- An append of an item to a plain book is refused with 8: it answers with the book's own values, and buffer and book stay as they were.
pub record RefusedWith8 (head : List ℕ) (is : List Item) (i : Item) (spare : List ℕ) : Type 0 where
  pub own : Snapshot Carried
  pub is_own : snapshot year_interface (book head is) ≡ some own
  pub outcome : plain_make year_interface (book head is) (call_append i spare)
      ≡ record { answer = some (refused_with conditions_code 0 own.values); buffer = some (own.bytes ++ spare); next = book head is }

pub record RetiredAppends : Type 0 where
  -- after the zone's, 17, 18, 6 and 7, and before all others: whatever else the hour says, and whatever limits and buffer the call is given
  pub append_refused : (z : Zone) (given : BookState Carried) (version : ℕ) (conditions buf : List ℕ) (l : Limits)
      → given.count < most_entries → may_follow given.state.last_version version ≡ true → FixedHour z given.state.state conditions
      → append year_interface z given (hour_item version conditions l) buf ≡ record { answer = refused_with conditions_code 0 given; buffer = buf }
  -- also where a cut took this very hour: the first of those that it took, offered anew
  pub lost_refused : (head : List ℕ) (is : List Item) (S : WellFormed year_interface head is) (at : ℕ) → length head ≤ at → at ≤ length (used_bytes year_interface head S.contents)
      → (version : ℕ) (body : List ℕ) (later : List Item) → kept_by year_interface at head is S ++ (hour version body ∷ later) ≡ is → is_fixed (body_conditions version body) ≡ true
      → (spare : List ℕ) → RefusedWith8 head (kept_by year_interface at head is S) (hour version body) spare
  -- with its rate as target and as windows open it is accepted where it has room, as another hour
  pub lost_as_another : (head : List ℕ) (is : List Item) (S : WellFormed year_interface head is) (at : ℕ) → length head ≤ at → at ≤ length (used_bytes year_interface head S.contents)
      → (version : ℕ) (body : List ℕ) (later : List Item) → kept_by year_interface at head is S ++ (hour version body ∷ later) ≡ is → is_fixed (body_conditions version body) ≡ true
      → (spare : List ℕ) → whole_length S.contents.zone version ≤ length spare
      → (plain_make year_interface (book head (kept_by year_interface at head is S)) (call_append (hour version (rate_twice body)) spare)).next
      ≡ book head (kept_by year_interface at head is S ++ (hour version (rate_twice body) ∷ []))
