-- Which numbers and indices begin, append and take-up can be refused with.
-- Specification, Order of tests; Table of refusals.
use Rattle.std.specs.Prelude.{ℕ, ◌<◌, ◌≡◌, List}
use Rattle.zone.specs.Promise.{RefusesOnly}
use Rattle.zone.specs.declared.record.zone_record.Zone.{Zone}
use Rattle.zone.specs.Claims.HeadRefusals.{HeadRefusal, ZoneRefusal}
use Rattle.zone.specs.Claims.Refusals.{KnownHourRefusal, StartUpRefusal}
use Rattle.book.specs.Model.Calls.{BookState, begin_res, append_res, take_up_res}
use Rattle.book.specs.Year.{Item, Carried, year_interface}
use Rattle.book.specs.Numbers.{buffer_short, book_full, false_entry}
use Rattle.book.specs.Layout.{most_entries}
use Rattle.book.specs.RetiredAppends.{RetiredAppends}
use Rattle.book.specs.Answers.{number_of, index_of}
use Rattle.book.specs.declared.book_error.BookError.{BookError}

-- Begin: the head's, then start-up's, then 16, the buffer too short.
pub data BeginRefusal : (number index : ℕ) → Type 0 where
  begin_head : {number index : ℕ} → HeadRefusal number index → BeginRefusal number index
  begin_start_up : {number index : ℕ} → StartUpRefusal number index → BeginRefusal number index
  begin_buffer_short : BeginRefusal buffer_short 0

-- Append: the zone's; 17, a count of 8,784 or more; 18 of the version, with the count as index; the hour step's from 6 on, with 19, a limit out of range,
-- after 9; 16, the buffer too short.
pub data AppendRefusal (count : ℕ) : (number index : ℕ) → Type 0 where
  append_zone : {number index : ℕ} → ZoneRefusal number index → AppendRefusal count number index
  append_book_full : AppendRefusal count book_full 0
  append_false_entry : count < most_entries → AppendRefusal count false_entry count
  append_hour : {number index : ℕ} → KnownHourRefusal number index → AppendRefusal count number index
  append_buffer_short : AppendRefusal count buffer_short 0

-- Take-up: the head's; start-up's; then entry by entry 17 for the 8,785th, or 18 for a false one, with its index from 0
pub data TakeUpRefusal : (number index : ℕ) → Type 0 where
  take_up_head : {number index : ℕ} → HeadRefusal number index → TakeUpRefusal number index
  take_up_start_up : {number index : ℕ} → StartUpRefusal number index → TakeUpRefusal number index
  take_up_book_full : TakeUpRefusal book_full 0
  take_up_false_entry : (entry : ℕ) → entry < most_entries → TakeUpRefusal false_entry entry

-- which refusals each call can give, for every input
pub record BookRefusals : Type 0 where
  pub begins : (head buf : List ℕ) → RefusesOnly BeginRefusal (begin_res year_interface head buf)
  pub appends : (z : Zone) (given : BookState Carried) (i : Item) (buf : List ℕ) → RefusesOnly (AppendRefusal given.count) (append_res year_interface z given i buf)
  pub take_ups : (bytes : List ℕ) → RefusesOnly TakeUpRefusal (take_up_res year_interface bytes)
  -- an append of an hour with rate code 0 has 8 in its place in that order
  pub fixed_rates : RetiredAppends

-- no two errors have the same number and index
abbrev pub OneError : Type 0
OneError = (e e' : BookError) → number_of e ≡ number_of e' → index_of e ≡ index_of e' → e ≡ e'
