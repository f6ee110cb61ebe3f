-- Where the parts of an entry are written, and how long one can be: the entry's own bytes (specs/Entry.antt) have these lengths.
use Rattle.std.specs.Prelude.{ℕ, ◌+◌, ◌*◌}
use Rattle.zone.specs.Format.Bytes.{float_size}
use Rattle.zone.specs.Format.Layout.{length_size, element_hour_size}
use Rattle.zone.specs.Format.Limits.{power_limits_size}
use Rattle.book.specs.Layout.{fixed_length}

-- trigger byte and trigger rate
abbrev pub trigger_size : ℕ
trigger_size = 1 + float_size

-- heating, cooling and rate, then the trigger
abbrev pub rates_size : ℕ
rates_size = float_size * 3

abbrev pub demand_size : ℕ
demand_size = rates_size + trigger_size

-- 24 elements of five nodes, the air, and the limits
abbrev pub longest_following : ℕ
longest_following = fixed_length + element_hour_size * 24 + float_size * 121 + power_limits_size

abbrev pub longest_entry : ℕ
longest_entry = length_size + longest_following
