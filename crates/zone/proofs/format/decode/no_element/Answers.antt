use Rattle.std.proofs.Common.{refl}
use Rattle.zone.specs.Record.BuildingElement.{number_of_nodes}
use Rattle.zone.specs.Format.Bytes.{big_endian_from}
use Rattle.zone.specs.Format.ElementLayout.{kind_of}
use Rattle.zone.specs.Format.Decode.{floats_at, no_element_hour, no_element}
use Rattle.zone.proofs.format.decode.no_element.Goals as goal

pub returns : goal.returns
unfolding no_element no_element_hour floats_at number_of_nodes kind_of big_endian_from
returns c = rw c.no_element_hour.ensures refl
