use Rattle.std.proofs.Common.{◌≡◌, ◌-◌, length}
use Rattle.solver.specs.Result.{ok}
use Rattle.zone.specs.Format.Layout.{first_element}
use Rattle.zone.specs.Format.Decode.{elements_at}
use Rattle.zone.specs.Format.Head.{elements_end}
use Rattle.zone.proofs.Laws.Lists.{replaced}
use Rattle.zone.proofs.format.decode.elements_to.Given as goal

-- what is left to read ends at `end`, and put where it goes, it gives all
abbrev pub invariant-loop-slot : goal.invariant-loop-slot
invariant-loop-slot l = record {
  sized : length l.slot-items ≡ l.n;
  ends : elements_end l.s l.end (l.n - l.slot-index) l.slot-index l.p ≡ ok l.end;
  filled : replaced l.slot-items l.slot-index (elements_at l.s l.p (l.n - l.slot-index)) (l.n - l.slot-index) ≡ elements_at l.s first_element l.n;
}
