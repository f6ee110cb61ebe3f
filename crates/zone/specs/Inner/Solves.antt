-- What the calculations of one hour share, as the code has it.
use Rattle.std.specs.Prelude.{List, Float}
use Rattle.zone.specs.declared.record.zone_record.Zone.{Zone}
use Rattle.zone.specs.declared.format.conditions.Conditions.{Conditions}
use Rattle.zone.specs.declared.record.building_element.Coefficients.{Coefficients}
use Rattle.zone.specs.Inner.Assembled.{Assembled, assemble_step}
use Rattle.zone.specs.Hour.Demand.{delta_t}

unfoldable pub hour_system : Coefficients → Zone → List Float → Conditions → Assembled
hour_system c z t h = assemble_step c z t h (delta_t h)
