use Rattle.hem_zone.proofs.InSession.{append_in_session}
use Rattle.hem_zone.proofs.session.append_in_session.Goals as goal

pub returns : goal.returns
returns c = append_in_session _ _ _ _ _ _ _ _ _ _ c.hem_append.ensures
