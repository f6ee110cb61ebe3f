-- The parameters of hem_begin, hem_append and hem_take_up by name, as a call was given them and as it left what it was lent: each stands in its place among them
-- here alone. `now` is what stands behind a reference.
use Rattle.std.proofs.Common.{ℕ, List, Float}
use contract.Lifetimes.{Lfts}
use denote.Triple.Clauses.{AtExit}
use borrow.Fn.Kinds.{Dens, ended_of}
use Rattle.hem_zone.specs.Book.{CBookState, c_book_state}
use Rattle.hem_zone.proofs.book_calls.hem_begin.Kinds as begin_kinds
use Rattle.hem_zone.proofs.book_calls.hem_append.Kinds as append_kinds
use Rattle.hem_zone.proofs.book_calls.hem_take_up.Kinds as take_up_kinds

pub record BeginGiven : Type 0 where
  pub head : List ℕ
  pub buf : List ℕ
  pub held : CBookState

pub record AppendGiven : Type 0 where
  pub head : List ℕ
  pub buf : List ℕ
  pub held : CBookState
  pub conditions : List ℕ
  pub version : ℕ
  pub heating_limit : Float
  pub cooling_limit : Float

pub record TakeUpGiven : Type 0 where
  pub bytes : List ℕ
  pub held : CBookState

-- what a begin or an append left: the buffer, and what a caller holds of the book
abbrev Left : Type 0
Left = List ℕ × CBookState

-- fn hem_begin(head, buf, temps, nodes, count, used, last_version)
abbrev pub begin_given : (κs : Lfts 7) → Dens κs begin_kinds.ps → BeginGiven
begin_given κs (head, (buf, (temps, (nodes, (count, (used, (last_version, _))))))) =
    record { head = head.now; buf = buf.now; held = c_book_state temps.now nodes.now count.now used.now last_version.now }

abbrev pub begin_left : (κs : Lfts 7) → AtExit (ended_of 7 begin_kinds.ps begin_kinds.r) κs → Left
begin_left κs (_, (buf, (temps, (nodes, (count, (used, (last_version, _))))))) =
    (buf.now, c_book_state temps.now nodes.now count.now used.now last_version.now)

-- fn hem_append(head, buf, temps, nodes, count, used, last_version, conditions, version, heating_limit, cooling_limit)
abbrev pub append_given : (κs : Lfts 8) → Dens κs append_kinds.ps → AppendGiven
append_given κs (head, (buf, (temps, (nodes, (count, (used, (last_version, (conditions, (version, (heating_limit, (cooling_limit, _))))))))))) =
    record {
      head = head.now;
      buf = buf.now;
      held = c_book_state temps.now nodes.now count.now used.now last_version.now;
      conditions = conditions.now;
      version = version;
      heating_limit = heating_limit;
      cooling_limit = cooling_limit;
    }

abbrev pub append_left : (κs : Lfts 8) → AtExit (ended_of 8 append_kinds.ps append_kinds.r) κs → Left
append_left κs (_, (buf, (temps, (nodes, (count, (used, (last_version, _))))))) =
    (buf.now, c_book_state temps.now nodes.now count.now used.now last_version.now)

-- fn hem_take_up(bytes, temps, nodes, count, used, last_version)
abbrev pub take_up_given : (κs : Lfts 6) → Dens κs take_up_kinds.ps → TakeUpGiven
take_up_given κs (bytes, (temps, (nodes, (count, (used, (last_version, _)))))) =
    record { bytes = bytes.now; held = c_book_state temps.now nodes.now count.now used.now last_version.now }

abbrev pub take_up_left : (κs : Lfts 6) → AtExit (ended_of 6 take_up_kinds.ps take_up_kinds.r) κs → CBookState
take_up_left κs (_, (temps, (nodes, (count, (used, (last_version, _)))))) = c_book_state temps.now nodes.now count.now used.now last_version.now
