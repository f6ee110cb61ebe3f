use Rattle.book.specs.Year.{year_interface}
use Rattle.book.specs.Answers.{rust_types}
use Rattle.book.proofs.Model.InSession.{begin_in_session}
use Rattle.book.proofs.session.begin_in_session.Goals as goal

pub returns : goal.returns
returns c = begin_in_session year_interface rust_types _ _ _ _ _ c.begin.ensures
