use Rattle.std.proofs.Common.{◌≡◌, ◌+◌, ◌*◌, ◌-◌}
use Rattle.zone.specs.Format.Bytes.{float_size}
use Rattle.zone.specs.Format.Decode.{floats_at}
use Rattle.zone.proofs.Laws.Lists.{replaced}
use Rattle.zone.proofs.format.decode.floats_to.Given as goal

-- what is left to read, put where it goes, gives all
abbrev pub invariant-loop-i : goal.invariant-loop-i
invariant-loop-i l =
    replaced l.out l.i (floats_at l.s (l.at + float_size * l.i) (l.i-end - l.i)) (l.i-end - l.i) ≡ floats_at l.s l.at l.i-end
