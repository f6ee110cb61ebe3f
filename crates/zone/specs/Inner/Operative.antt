-- `temp_operative` as the code has it, for a zone that is asked several times in an hour: from the elements' areas and their total.
use Rattle.std.specs.Prelude.{ℕ, ◌+◌, ◌-◌, Bool, List, get_or, replicate, Float}
use Rattle.std.specs.Float.{nan}
use Rattle.solver.specs.F64.{◌*ᶠ◌, ◌/ᶠ◌, zero64}
use Rattle.solver.specs.Sums.{sum2, terms}
use Rattle.solver.specs.FastSolver.{at_most24}
use Rattle.zone.specs.declared.record.zone_record.Zone.{Zone}
use Rattle.zone.specs.Physics.Slots.{air, inner_surface, with_terms}
use Rattle.zone.specs.Physics.System.{area_of}
use Rattle.zone.specs.Physics.NodeLayout.{first_node}
use Rattle.zone.specs.Physics.TempOperative.{mean_of}
use Rattle.zone.specs.Inner.Assembly.{at}
use Rattle.zone.specs.declared.record.zone_record.ZoneTemperatureControlBasis.{ZoneTemperatureControlBasis}
use Rattle.zone.specs.declared.record.zone_record.ZoneTemperatureControlBasis.TheVariants.{Air, Operative}

-- element e's term of the mean radiant temperature
abbrev pub radiant_at : (area : ℕ → Float) → List Float → ℕ → Float
radiant_at area t e = area e *ᶠ inner_surface t e

-- the same of temperatures in node order: its inner surface is the last of its nodes
abbrev pub radiant_of_nodes : (area : ℕ → Float) → (two_nodes : List Bool) → (temps : List Float) → ℕ → Float
radiant_of_nodes area two_nodes temps e = area e *ᶠ get_or temps (first_node two_nodes (e + 1) - 1) nan

unfoldable pub temp_operative_of : ℕ → (area : ℕ → Float) (area_el_total : Float) → List Float → Float
temp_operative_of n area area_el_total t = mean_of (air t) (sum2 (terms 0 n (radiant_at area t)) /ᶠ area_el_total)

-- the areas of a zone's elements, 0.0 in the places behind them
unfoldable pub areas_of : Zone → List Float
areas_of z = with_terms (at_most24 z.count) (area_of z.building_elements) (replicate 24 zero64)

-- `control_temperature` from the areas and their total
abbrev pub control_by : ZoneTemperatureControlBasis → (count : ℕ) (areas : List Float) (area_el_total : Float) → List Float → Float
control_by Air count areas area_el_total t = air t
control_by Operative count areas area_el_total t = temp_operative_of (at_most24 count) (at areas) area_el_total t
