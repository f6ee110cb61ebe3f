use Rattle.zone.proofs.Claims.EachZone.{each_zone}
use Rattle.zone.proofs.promised.promises.Goals as goal

pub returns-clause-each_zone : goal.returns-clause-each_zone
returns-clause-each_zone c = each_zone
