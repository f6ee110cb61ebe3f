use Rattle.book.specs.Year.{year_interface}
use Rattle.book.specs.Answers.{rust_types}
use Rattle.book.proofs.Model.InSession.{take_up_in_session, cut_in_session}
use Rattle.book.proofs.session.take_up_in_session.Goals as goal

pub returns-clause-taken_up : goal.returns-clause-taken_up
returns-clause-taken_up c = take_up_in_session year_interface rust_types _ _ _ c.take_up.ensures

pub returns-clause-cut : goal.returns-clause-cut
returns-clause-cut c = cut_in_session year_interface rust_types _ _ _ c.take_up.ensures
