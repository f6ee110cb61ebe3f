use Rattle.book.specs.Year.{year_interface}
use Rattle.book.proofs.Model.InSession.{begin_in_session}
use Rattle.hem_zone.specs.BookTypes.{c_types}
use Rattle.hem_zone.proofs.InSession.{begin_meets}
use Rattle.hem_zone.proofs.session.begin_in_session.Goals as goal

pub returns : goal.returns
returns c = begin_in_session year_interface c_types _ _ _ _ _ (begin_meets _ _ _ _ _ _ c.hem_begin.ensures)
