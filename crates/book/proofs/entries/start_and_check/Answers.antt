use Rattle.std.proofs.Common.{refl, sym, ◌∙◌}
use Rattle.std.specs.Prelude.{Ok}
use Rattle.book.proofs.Laws.Heads.{head_inside, start_up_passed}
use Rattle.book.proofs.TakeUp.{start_refused, start_read}
use Rattle.book.proofs.entries.start_and_check.Goals as goal

pub returns-in_err-state-clause-start : goal.returns-in_err-state-clause-start
returns-in_err-state-clause-start c =
    let begun = c.of-calculation.ensures in
    start_refused _ _ _ c.requires _ (rw (begun.0, begun.1) at c.start_up.ensures.state) _ _ c.in_err-state.was

pub check_entries-requires : goal.check_entries-requires
check_entries-requires c =
    let begun = c.of-calculation.ensures in
    let same = c.start_up.ensures.of_same in
    record {
      tested = rw (same.0, begun.0) (start_up_passed _ _ (rw (begun.0, begun.1) at c.start_up.ensures.state) _ c.in_ok-state.was);
      standard = same.1 ∙ begun.1;
      inside = head_inside _ (Ok _) _ (sym c.requires) _ refl;
    }

pub returns-clause-start : goal.returns-clause-start
returns-clause-start c =
    let begun = c.of-calculation.ensures in
    start_read _ _ _ c.requires _ (rw (begun.0, begun.1) at c.start_up.ensures.state) _ c.in_ok-state.was _
