use Rattle.std.proofs.Common.{refl}
use Rattle.zone.specs.Format.Bytes.{big_endian_from}
use Rattle.zone.specs.Format.Decode.{elements_at, zone_at}
use Rattle.zone.specs.Inner.Head.{no_zone}
use Rattle.zone.proofs.record.zone_record.Zone.none.Goals as goal

pub returns : goal.returns
unfolding no_zone zone_at elements_at big_endian_from
returns c = rw c.no_element.ensures refl
