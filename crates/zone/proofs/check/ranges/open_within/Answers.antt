use Rattle.std.proofs.Common.{sym}
use Rattle.std.proofs.lemmas.Bool.{lt-ltb}
use Rattle.zone.proofs.Laws.Ranges.{byte_below}
use Rattle.zone.proofs.check.ranges.open_within.Goals as goal

pub returns-else-treatments-lt8 : goal.returns-else-treatments-lt8
returns-else-treatments-lt8 c = sym (lt-ltb _ _ (byte_below c.args.treatments_open c.args.treatments c.ranges.treatments_open.fits c.if-treatments-lt8.false))
