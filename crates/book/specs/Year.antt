-- The layers of the year book: the head's reader, start-up and the hour step of the crates below, and the bytes of an entry.
-- Specification, Plain book; Append; Take-up; Where an entry ends; Fixed rate; Values of a book.
use Rattle.std.specs.Prelude.{Bool, cond, ◌&&◌, ℕ, ◌-◌, List, [], ◌++◌, length, take, drop, leb}
use Rattle.std.proofs.Math.Option.{Option, none, some}
use Rattle.zone.specs.Promise.{Result, ok, bind, require_at}
use Rattle.zone.specs.Record.BuildingElement.{standard_coefficients}
use Rattle.zone.specs.Format.Head.{head_of}
use Rattle.zone.specs.Check.ZoneTest.{zone_test}
use Rattle.zone.specs.declared.record.zone_record.Zone.{Zone}
use Rattle.zone.specs.Calls.Hour.{hour_version, has_limits, hour_step}
use Rattle.zone.specs.Calls.StartUp.{init_node_temps}
use Rattle.zone.specs.declared.calls.state.State.{State}
use Rattle.book.specs.Model.Interface.{Interface, Written}
use Rattle.zone.specs.Format.Layout.{version_in}
use Rattle.zone.specs.Format.Limits.{limits_bytes, limits_in}
use Rattle.zone.specs.declared.format.conditions.FixedRate.{FixedRate}
use Rattle.zone.specs.declared.format.conditions.FixedRate.TheVariants.{Retired, StillTaken}
use Rattle.zone.specs.declared.format.limits.Limits.{Limits}
use Rattle.book.specs.Numbers.{false_entry}
use Rattle.book.specs.Layout.{most_entries, front_size, limits_length, whole_length, body_length}
use Rattle.book.specs.Entry.{entry_of}

-- an hour as the plain book holds it, bit for bit: the version that its append named, and `body`, the bytes of its conditions and, in version 3, behind them
-- those of its limits
pub data Item : Type 0 where
  hour : (version : ℕ) (body : List ℕ) → Item

-- an hour's version and body: what speaks of every item goes by these, and only a rule of an item's own by the constructor
abbrev pub version_of : Item → ℕ
version_of (hour version body) = version

abbrev pub body_of : Item → List ℕ
body_of (hour version body) = body

-- the hour of a call: its conditions, and its limits where the version has them
abbrev pub limits_part : (version : ℕ) → Limits → List ℕ
limits_part version l = cond (has_limits version) (limits_bytes l) []

abbrev pub hour_item : (version : ℕ) (conditions : List ℕ) → Limits → Item
hour_item version conditions l = hour version (conditions ++ limits_part version l)

-- the two parts of a body: the limits are its last bytes
abbrev pub body_conditions : (version : ℕ) (body : List ℕ) → List ℕ
body_conditions version body = take (length body - limits_length version) body

abbrev pub body_limits : (version : ℕ) (body : List ℕ) → Limits
body_limits version body = limits_in (drop (length body - limits_length version) body)

-- what is carried from entry to entry and handed back, `State` of specs/Model: the node temperatures, and the version of the last entry
pub record Carried : Type 0 where
  pub state : State
  pub last_version : ℕ

abbrev pub carried : State → (last_version : ℕ) → Carried
carried s last_version = record { state = s; last_version = last_version }

-- the last version of a book without entries
abbrev pub no_entry_version : ℕ
no_entry_version = 1

abbrev pub start_up : Zone → Result Carried
start_up z =
    bind (init_node_temps standard_coefficients z) λ s.
    ok (carried s no_entry_version)

-- a version that hours have, and not below the last one: a book may stay at its version or rise, from 1 to 3 too, and never falls; else 18
abbrev pub may_follow : (last_version version : ℕ) → Bool
may_follow last_version version = hour_version version && leb last_version version

-- the entry that an hour has, and what is carried after it: the version is tested first (18, with the count held as index), and the hour step is by that
-- version's rule
unfoldable pub hour_entry : FixedRate → Zone → (count : ℕ) → Carried → Item → Result (Written Carried)
hour_entry fixed z k s (hour version body) =
    bind (require_at (may_follow s.last_version version) false_entry k) λ _.
    bind (hour_step fixed standard_coefficients z version (body_limits version body) s.state (body_conditions version body)) λ r.
    ok (record { bytes = entry_of z version body r.demand r.state; after = carried r.state version })

-- What is dropped at the end is a rest under 5 bytes, or shorter than its version byte calls for; an unknown version byte makes any rest of 5 bytes or more
-- count as a whole entry, a false one.
unfoldable pub entry_length : Zone → (rest : List ℕ) → Option ℕ
entry_length z rest =
    cond (leb front_size (length rest))
    (cond (hour_version (version_in rest))
    (cond (leb (whole_length z (version_in rest)) (length rest)) (some (whole_length z (version_in rest))) none)
    (some (length rest)))
    none

-- the version stands behind the length, as in a head, and the body behind both
abbrev pub body_in : Zone → (version : ℕ) → (entry : List ℕ) → List ℕ
body_in z version e = take (body_length z version) (drop front_size e)

unfoldable pub item_in : Zone → (entry : List ℕ) → Item
item_in z e = hour (version_in e) (body_in z (version_in e) e)

-- An append refuses an hour with rate code 0 (`Retired`). A take-up judges an entry with code 0, of any version, by its hour step as if this refusal were not
-- (`StillTaken`).
abbrev pub year_interface : Interface
year_interface =
    record {
      Zone = Zone;
      State = Carried;
      Item = Item;
      limit = most_entries;
      head_of = head_of;
      given_test = λ z s. zone_test z;
      start_up = start_up;
      step = hour_entry StillTaken;
      append_step = hour_entry Retired;
      entry_length = entry_length;
      item_of = item_in;
    }
