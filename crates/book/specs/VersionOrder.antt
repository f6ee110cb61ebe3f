-- The versions of the hours that a book holds, which never fall, and when 18 is answered for a version.
-- Specification, Append; Take-up; Entry versions.
use Rattle.std.specs.Prelude.{ℕ, ◌≤◌, ◌<◌, ◌≡◌, ◌↔◌, ◌≢◌, ◌⊎◌, List, [], ◌∷◌, ◌++◌, map, length}
use Rattle.std.proofs.Math.Option.{some}
use Rattle.zone.specs.Promise.{ok, refused}
use Rattle.zone.specs.Check.ZoneTest.{zone_test}
use Rattle.zone.specs.Format.Layout.{version_in}
use Rattle.zone.specs.declared.record.zone_record.Zone.{Zone}
use Rattle.book.specs.Numbers.{false_entry}
use Rattle.book.specs.Layout.{most_entries, whole_length}
use Rattle.book.specs.Model.Calls.{BookState, append_res, take_up_res}
use Rattle.book.specs.Model.Plain.{empty, book, Snapshot, snapshot, used_bytes, WellFormed}
use Rattle.book.specs.Model.Run.{Calls, plain_after}
use Rattle.book.specs.Year.{Item, hour, version_of, Carried, no_entry_version, year_interface}

-- the versions of the hours, in their order
abbrev pub versions_of : List Item → List ℕ
versions_of is = map version_of is

-- each is 1, 2 or 3, and not below the one before it; before the first stands `last`
unfoldable pub NeverFall : (last : ℕ) → (versions : List ℕ) → Type 0
NeverFall last [] = Unit {0}
NeverFall last (v ∷ vs) = (1 ≤ v) × (v ≤ 3) × (last ≤ v) × NeverFall v vs

-- the version of the last hour, `last` where there is none
unfoldable pub last_version_of : (last : ℕ) → (versions : List ℕ) → ℕ
last_version_of last [] = last
last_version_of last (v ∷ vs) = last_version_of v vs

-- a version that no hour has, or one below the last
abbrev pub MayNotFollow : (last version : ℕ) → Type 0
MayNotFollow last version = ((version ≢ 1) × (version ≢ 2) × (version ≢ 3)) ⊎ (version < last)

pub record InOrder (head : List ℕ) (is : List Item) : Type 0 where
  pub never_fall : NeverFall no_entry_version (versions_of is)
  -- The last version that belongs to the book, and is handed back, is that of the last entry, or 1 where there is none.
  pub last_version_lem : (v : Snapshot Carried) → snapshot year_interface (book head is) ≡ some v → v.values.state.last_version ≡ last_version_of no_entry_version (versions_of is)

pub record VersionClaims : Type 0 where
  -- Versions never fall in a book that calls have made,
  pub calls_in_order : (cs : Calls year_interface) (head : List ℕ) (is : List Item) → plain_after year_interface empty cs ≡ book head is → InOrder head is
  -- nor in any well-formed one, from which calls may go on.
  pub formed_in_order : (head : List ℕ) (is : List Item) → WellFormed year_interface head is → InOrder head is
  -- An append has 18 exactly where the zone is accepted, 17 does not come, and its version may not follow; its index is the count held.
  pub append_refused : (z : Zone) (given : BookState Carried) (version : ℕ) (body buf : List ℕ) (index : ℕ)
      → (append_res year_interface z given (hour version body) buf ≡ refused false_entry index)
      ↔ ((zone_test z ≡ ok tt) × (given.count < most_entries) × MayNotFollow given.state.last_version version × (index ≡ given.count))
  -- A take-up of a book's bytes, then a whole entry of a version below the last, then any bytes, has 18 with the index of this entry.
  pub take_up_refused : (head : List ℕ) (is : List Item) (S : WellFormed year_interface head is) → length is < most_entries
      → (entry rest : List ℕ) → (version_in entry ≡ 1) ⊎ (version_in entry ≡ 2) → version_in entry < last_version_of no_entry_version (versions_of is)
      → length entry ≡ whole_length S.contents.zone (version_in entry)
      → take_up_res year_interface (used_bytes year_interface head S.contents ++ (entry ++ rest)) ≡ refused false_entry (length is)
