use Rattle.std.proofs.Common.{◌≡◌, ◌+◌, ◌*◌, ◌-◌, length}
use Rattle.zone.specs.Format.Layout.{first_element_hour, element_hour_size}
use Rattle.zone.specs.Format.Conditions.{element_hours_at}
use Rattle.zone.proofs.Laws.Lists.{replaced}
use Rattle.zone.proofs.format.decode_conditions.element_hours_at.Given as goal

-- what is left to read, put where it goes, gives all
abbrev pub invariant-loop-i : goal.invariant-loop-i
invariant-loop-i l = record {
  sized : length l.hour-items ≡ l.n;
  filled : replaced l.hour-items l.i (element_hours_at l.s (first_element_hour + element_hour_size * l.i) (l.n - l.i)) (l.n - l.i) ≡ element_hours_at l.s first_element_hour l.n;
}
