-- The limits of the plant, at an append: its whole outcome by the hour step with the limits that the call names; when limits change nothing; and that books
-- tell limits apart.
-- Specification, Limits of the plant; Append; Equality of books.
use Rattle.std.specs.Prelude.{ℕ, ◌+◌, ◌*◌, ◌<◌, ◌≡◌, ◌⊎◌, true, List, ◌++◌, T, leb, ltb, length, take, drop}
use Rattle.std.specs.Float.{binary64}
use Rattle.std.specs.Float.Ieee.{fits}
use Rattle.zone.specs.Promise.{Result, ok, bind, require, require_at}
use Rattle.zone.specs.Record.BuildingElement.{node_count, standard_coefficients}
use Rattle.zone.specs.Check.ZoneTest.{zone_test}
use Rattle.zone.specs.declared.record.zone_record.Zone.{Zone}
use Rattle.zone.specs.declared.format.conditions.Conditions.{Conditions}
use Rattle.zone.specs.declared.format.conditions.FixedRate.TheVariants.{Retired}
use Rattle.zone.specs.declared.format.limits.Limits.{Limits}
use Rattle.zone.specs.declared.calls.state.Demand.{Demand}
use Rattle.zone.specs.Calls.Hour.{power_limits_range, tested, demand, delivered, HourResult, hour_step}
use Rattle.zone.specs.Claims.Versions.{Within}
use Rattle.book.specs.Numbers.{buffer_short, book_full, false_entry}
use Rattle.book.specs.Layout.{most_entries, whole_length}
use Rattle.book.specs.Entry.{entry_of}
use Rattle.book.specs.Model.Calls.{BookState, append_res}
use Rattle.book.specs.Year.{Carried, carried, may_follow, limits_part, hour_item, year_interface}

-- both are floats of 64 bits, as the limits of every call are
pub record AreF64 (l : Limits) : Type 0 where
  pub heating : T (fits binary64 l.heating)
  pub cooling : T (fits binary64 l.cooling)

module _ (z : Zone) (given : BookState Carried) (conditions buf : List ℕ) (l : Limits) where
  -- what an append of a version hands back and leaves in the buffer for an hour: its entry has the demand uncut, and behind the conditions the limits where the
  -- version has them
  abbrev pub appended : (version : ℕ) → HourResult → BookState Carried × List ℕ
  appended version h =
      let n = whole_length z version in (
        record { state = carried h.state version; count = given.count + 1; used = given.used + n },
        take given.used buf ++ entry_of z version (conditions ++ limits_part version l) h.demand h.state ++ drop (given.used + n) buf,
      )

  -- an append of a version with these limits
  abbrev pub append : (version : ℕ) → Result (BookState Carried × List ℕ)
  append version = append_res year_interface z given (hour_item version conditions l) buf

  pub record PlantClaims : Type 0 where
    -- The zone's; 17; 18 with the count held as index; the hour step's with the call's own limits, bit for bit, so 19 after 9 and in version 3 alone; 16 by
    -- the length of an entry of that version.
    pub whole : AreF64 l → (version : ℕ) → append version ≡ (
        bind (zone_test z) λ _.
        bind (require (ltb given.count most_entries) book_full) λ _.
        bind (require_at (may_follow given.state.last_version version) false_entry given.count) λ _.
        bind (hour_step Retired standard_coefficients z version l given.state.state conditions) λ h.
        bind (require (leb (given.used + whole_length z version) (length buf)) buffer_short) λ _.
        ok (appended version h))
    -- the length, 147 + 41n + 8N, and its own 4 bytes; of version 3 16 more
    pub size : (version : ℕ) → (version ≡ 1) ⊎ (version ≡ 2) → whole_length z version ≡ 151 + 41 * z.count + 8 * node_count z
    pub size_3 : whole_length z 3 ≡ 167 + 41 * z.count + 8 * node_count z
    -- An hour whose power is within both limits ends as version 2's: one demand, one state, and entries that differ in length, version byte and limits only.
    pub within_limits : AreF64 l → power_limits_range l ≡ true
        → ((h : Conditions) (d : Demand) → tested Retired z given.state.state conditions ≡ ok h → demand Retired standard_coefficients z given.state.state conditions ≡ ok d
        → Within l (delivered h d))
        → (r r' : BookState Carried × List ℕ) → append 3 ≡ ok r → append 2 ≡ ok r' → (h : HourResult) × (r ≡ appended 3 h) × (r' ≡ appended 2 h)

-- Equality of books covers the limits too, bit for bit: two hours of version 3 that a book holds as one have the same limits; of an earlier version they play
-- no part
pub record LimitsApart : Type 0 where
  pub version_3 : (c c' : List ℕ) (l l' : Limits) → AreF64 l → AreF64 l' → hour_item 3 c l ≡ hour_item 3 c' l' → (c ≡ c') × (l ≡ l')
  pub earlier : (version : ℕ) → version < 3 → (c : List ℕ) (l l' : Limits) → hour_item version c l ≡ hour_item version c l'
