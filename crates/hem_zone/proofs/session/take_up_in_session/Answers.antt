use Rattle.std.proofs.Common.{ap, ◌∙◌}
use Rattle.book.specs.Year.{year_interface}
use Rattle.book.proofs.Model.InSession.{take_up_in_session, cut_in_session}
use Rattle.hem_zone.specs.BookTypes.{answer_of, c_types}
use Rattle.hem_zone.proofs.InSession.{take_up_meets}
use Rattle.hem_zone.proofs.session.take_up_in_session.Goals as goal

pub returns-clause-taken_up : goal.returns-clause-taken_up
returns-clause-taken_up c = take_up_in_session year_interface c_types _ _ _ (ap answer_of c.hem_take_up.ensures ∙ take_up_meets _ _)

pub returns-clause-cut : goal.returns-clause-cut
returns-clause-cut c = cut_in_session year_interface c_types _ _ _ (ap answer_of c.hem_take_up.ensures ∙ take_up_meets _ _)
