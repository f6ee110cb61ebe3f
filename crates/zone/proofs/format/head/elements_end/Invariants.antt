use Rattle.std.proofs.Common.{◌≡◌, ◌-◌, ◌≤◌}
use Rattle.zone.specs.Format.Layout.{first_element}
use Rattle.zone.specs.Format.Head.{elements_end}
use Rattle.zone.proofs.format.head.elements_end.Given as goal

-- the answer is that of what is left
abbrev pub invariant-loop-i : goal.invariant-loop-i
invariant-loop-i l = record { within : l.p ≤ l.end; left : elements_end l.s l.end (l.n - l.i) l.i l.p ≡ elements_end l.s l.end l.n 0 first_element }
