-- The operative temperatures of the states that stand in the bytes behind a head, entry by entry: what the loops go through. For an accepted book they are `hour_temperatures`.
use Rattle.std.specs.Prelude.{ℕ, List, [], map, cond, leb, Float}
use Rattle.zone.specs.Calls.State.{operative_of}
use Rattle.zone.specs.declared.record.zone_record.Zone.{Zone}
use Rattle.book.specs.Model.Calls.{whole_entries}
use Rattle.book.specs.Inner.Reader.{most_elements, state_in}
use Rattle.book.specs.Year.{year_interface}
use Rattle.tools.specs.declared.hours.Hours.{Hours}

-- after the hour of an entry
abbrev pub entry_temperature : Zone → (entry : List ℕ) → Float
entry_temperature z e = operative_of z (state_in z e).temps

abbrev pub temperatures_in : Zone → (entries : List ℕ) → List Float
temperatures_in z bs = map (entry_temperature z) (whole_entries year_interface z bs)

-- those that are still to come; of a zone with too many elements nothing is read
unfoldable pub hours_left : Hours → List Float
hours_left h = cond (leb h.zone.now.count most_elements) (temperatures_in h.zone.now h.entries.now) []
