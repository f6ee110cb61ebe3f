use Rattle.std.proofs.Common.{◌≡◌, take}
use Rattle.zone.specs.Format.Encode.{row_bytes}
use Rattle.book.specs.Inner.Start.{with_start}
use Rattle.book.proofs.bytes.write_f64s_be.Given as goal

-- the floats before stand at the start
abbrev pub invariant-loop-i : goal.invariant-loop-i
invariant-loop-i l = l.b ≡ with_start (row_bytes (take l.i l.xs)) l.initial.b
