-- What is read of a book: the state of its start-up, and the first entry of a rest of it with the state after its hour.
-- Specification, Where an entry ends.
use Rattle.std.specs.Prelude.{ℕ, ◌-◌, ◌*◌, cond, List, ◌++◌, length, take, drop, replicate, leb, Float}
use Rattle.std.proofs.Math.Option.{Option, none}
use Rattle.zone.specs.Promise.{Result, ok, refused, bind, zero64}
use Rattle.zone.specs.Record.BuildingElement.{node_count}
use Rattle.zone.specs.Format.Bytes.{float_size}
use Rattle.zone.specs.Format.Decode.{floats_at}
use Rattle.zone.specs.Format.Head.{head_of}
use Rattle.zone.specs.Inner.Temperatures.{most_nodes}
use Rattle.zone.specs.declared.record.zone_record.Zone.{Zone}
use Rattle.zone.specs.declared.calls.state.State.{State}
use Rattle.book.specs.Model.Bytes.{from_option}
use Rattle.book.specs.Year.{start_up, entry_length}

-- start-up's state, of the head with which bytes begin; the given one where head or start-up is refused
abbrev pub state_or : (given : State) → Result State → State
state_or given (ok s) = s
state_or given (refused number index) = given

unfoldable pub start_in : (given : State) → List ℕ → State
start_in given bytes = state_or given (bind (head_of bytes) λ h. bind (start_up h.zone) λ s. ok s.state)

-- N node temperatures: an entry ends with them
abbrev pub temperatures_of : Zone → (entry : List ℕ) → List Float
temperatures_of z e = floats_at (drop (length e - float_size * node_count z) e) 0 (node_count z)

-- an array of temperatures, once those of an entry stand in its first places; 0.0 in every place where the entry is too short to hold them
unfoldable pub read_temperatures : Zone → (entry : List ℕ) → (temps : List Float) → List Float
read_temperatures z e temps =
    cond (leb (float_size * node_count z) (length e))
    (temperatures_of z e ++ drop (node_count z) temps)
    (replicate most_nodes zero64)

-- the state after the hour of an entry; places behind the air hold 0.0
abbrev pub state_in : Zone → (entry : List ℕ) → State
state_in z e = record { nodes = node_count z; temps = read_temperatures z e (replicate most_nodes zero64) }

-- a zone has at most so many elements
abbrev pub most_elements : ℕ
most_elements = 24

-- the length of the first entry of a rest; none where none begins, or where the zone has too many elements
abbrev pub read_length : Zone → (rest : List ℕ) → Option ℕ
read_length z rest = cond (leb z.count most_elements) (entry_length z rest) none

-- the array, once it is read
abbrev pub read_first : Zone → (rest : List ℕ) → (temps : List Float) → List Float
read_first z rest temps = from_option temps (λ n. read_temperatures z (take n rest) temps) (read_length z rest)
