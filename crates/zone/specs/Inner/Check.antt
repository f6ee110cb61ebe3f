-- Words of the contracts of functions that are not exported: an element's values, as the code divides the test.
use Rattle.std.specs.Prelude.{ℕ, Bool, ◌&&◌, List, take, Float}
use Rattle.zone.specs.Record.BuildingElement.{number_of_nodes}
use Rattle.zone.specs.Format.ElementLayout.{h_count}
use Rattle.zone.specs.Check.Ranges.{from_to, above_to, h_pli_range, k_pli_range, delta_r_range, all_in, open_within}
use Rattle.zone.specs.Check.ZoneTest.{element_hour_in_range}
use Rattle.zone.specs.declared.check.ranges.Range.{Range}
use Rattle.zone.specs.declared.check.ranges.Range.TheVariants.{FromTo, AboveTo}
use Rattle.zone.specs.declared.record.building_element.Element.{Element}

-- what a range of the code holds
abbrev pub within : Range → Float → Bool
within (FromTo low high) = from_to low high
within (AboveTo low high) = above_to low high

-- the first kc of k_pli, the first hc of h_pli and the first t of delta_r
unfoldable pub arrays_in_range : (kc hc t : ℕ) (k h d : List Float) → Bool
arrays_in_range kc hc t k h d = all_in k_pli_range (take kc k) && all_in h_pli_range (take hc h) && all_in delta_r_range (take t d)

-- the arrays, the first hour's part and its open byte
unfoldable pub tail_in_range : Element → Bool
tail_in_range e =
    arrays_in_range (number_of_nodes e.kind) (h_count e.kind) e.treatments e.k_pli e.h_pli e.delta_r
    && element_hour_in_range e.first_hour
    && open_within e.treatments e.first_hour.treatments_open
