-- The bytes of an entry.
-- Specification, Entry.
use Rattle.std.specs.Prelude.{None, Option, Some, Float}
use Rattle.std.specs.Prelude.{ℕ, List, [], ◌∷◌, ◌++◌, take}
use Rattle.zone.specs.Format.Bytes.{bytes_of, float_size}
use Rattle.zone.specs.Format.Encode.{float_bytes, row_bytes}
use Rattle.zone.specs.Record.BuildingElement.{node_count}
use Rattle.zone.specs.declared.record.zone_record.Zone.{Zone}
use Rattle.zone.specs.declared.calls.state.State.{State}
use Rattle.zone.specs.declared.calls.state.Demand.{Demand}
use Rattle.zone.specs.Format.Layout.{length_size}
use Rattle.book.specs.Layout.{version_size, following_length}

-- 4-byte length of what follows, then version byte: that of the hour's version
abbrev pub front_bytes : Zone → (version : ℕ) → List ℕ
front_bytes z version = bytes_of length_size (following_length z version) ++ bytes_of version_size version

-- trigger byte 1 and the trigger rate, or trigger byte 0 and 8 zero bytes
abbrev pub trigger_bytes : Option Float → List ℕ
trigger_bytes None = bytes_of 1 0 ++ bytes_of float_size 0
trigger_bytes (Some rate) = bytes_of 1 1 ++ float_bytes rate

-- heating, cooling, rate, then the trigger
abbrev pub demand_bytes : Demand → List ℕ
demand_bytes d =
    row_bytes (d.space_heat_demand ∷ d.space_cool_demand ∷ d.ach_cooling ∷ [])
    ++ trigger_bytes d.ach_to_trigger_heating

-- N node temperatures, those after the hour
abbrev pub temperature_bytes : Zone → State → List ℕ
temperature_bytes z s = row_bytes (take (node_count z) s.temps)

-- An entry: length and version, `body`, heating, cooling, rate, trigger byte, trigger rate, N node temperatures. `body` is the conditions' bytes as they were
-- given, and in version 3 behind them those of the two limits.
unfoldable pub entry_of : Zone → (version : ℕ) → (body : List ℕ) → Demand → State → List ℕ
entry_of z version body d s = front_bytes z version ++ (body ++ (demand_bytes d ++ temperature_bytes z s))
