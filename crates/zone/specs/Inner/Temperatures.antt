-- Node temperatures as they stand in bytes, in node order.
use Rattle.std.specs.Prelude.{ℕ, ◌*◌, ◌&&◌, cond, List, ◌++◌, length, drop, leb, Float}
use Rattle.zone.specs.Format.Bytes.{float_size}
use Rattle.zone.specs.Format.Decode.{floats_at}

-- 24 elements of five nodes, and the air
abbrev pub most_nodes : ℕ
most_nodes = 121

-- temperatures, of which the first `nodes` are the first floats of the bytes; as they were where the bytes are too few or the nodes too many
unfoldable pub temperatures_from : (bytes : List ℕ) → (nodes : ℕ) → (temps : List Float) → List Float
temperatures_from bytes nodes temps =
    cond (leb nodes most_nodes && leb (float_size * nodes) (length bytes))
    (floats_at bytes 0 nodes ++ drop nodes temps)
    temps
