-- Sizes in the bytes of a book.
-- Specification, Entry.
use Rattle.std.specs.Prelude.{ℕ, ◌+◌, ◌*◌, cond}
use Rattle.zone.specs.Record.BuildingElement.{node_count}
use Rattle.zone.specs.Format.Bytes.{float_size}
use Rattle.zone.specs.Format.Layout.{length_size, element_hour_size, conditions_length}
use Rattle.zone.specs.Format.Limits.{power_limits_size}
use Rattle.zone.specs.Calls.Hour.{has_limits}
use Rattle.zone.specs.declared.record.zone_record.Zone.{Zone}

-- the most entries: a leap year's hours
abbrev pub most_entries : ℕ
most_entries = 8784

-- 4-byte length of what follows, then version byte
abbrev pub version_size : ℕ
version_size = 1

abbrev pub front_size : ℕ
front_size = length_size + version_size

-- the length of an entry, 147 + 41n + 8N, of version 3 16 more, counts what follows the 4 bytes in which it stands; n and N are of the head. Here is the 147
abbrev pub fixed_length : ℕ
fixed_length = 147

-- version 3 has two floats more, behind the conditions: 16 bytes
abbrev pub limits_length : (version : ℕ) → ℕ
limits_length version = cond (has_limits version) power_limits_size 0

abbrev pub following_length : Zone → (version : ℕ) → ℕ
following_length z version = fixed_length + element_hour_size * z.count + float_size * node_count z + limits_length version

-- all bytes of an entry
abbrev pub whole_length : Zone → (version : ℕ) → ℕ
whole_length z version = length_size + following_length z version

-- those between the version byte and the demand: the conditions, and the limits behind them
abbrev pub body_length : Zone → (version : ℕ) → ℕ
body_length z version = conditions_length z.count + limits_length version
