use Rattle.std.proofs.Common.{◌≡◌, ◌+◌, ◌*◌, ◌-◌, ◌^◌, min, take}
use Rattle.big_endian.specs.Bytes.{written, f64s_bytes}
use Rattle.big_endian.proofs.write.write_f64s_be.Given as goal

abbrev pub invariant-loop-x : goal.invariant-loop-x
invariant-loop-x l = record {
  floats : l.b ≡ written l.initial.b l.at (f64s_bytes (take l.x-index l.xs));
  behind : l.place ≡ min (l.at + 8 * l.x-index) (2 ^ 64 - 1);
}
