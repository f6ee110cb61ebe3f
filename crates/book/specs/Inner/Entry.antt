-- The bytes of what an entry holds.
use Rattle.std.specs.Prelude.{ℕ, ◌≡◌, List, ◌++◌, length}
use Rattle.zone.specs.Format.Layout.{conditions_length}
use Rattle.zone.specs.declared.record.zone_record.Zone.{Zone}
use Rattle.book.specs.Layout.{limits_length}
use Rattle.book.specs.Entry.{entry_of}
use Rattle.book.specs.declared.entry.Entry.{Entry}

abbrev pub bytes_in : Zone → Entry → List ℕ
bytes_in z e = entry_of z e.version (e.conditions.now ++ e.limits.now) e.demand e.after.now

-- its conditions are this zone's, and its limits those of its version
abbrev pub EntryFits : Zone → Entry → Type 0
EntryFits z e = (length e.conditions.now ≡ conditions_length z.count) × (length e.limits.now ≡ limits_length e.version)
