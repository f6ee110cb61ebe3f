use Rattle.std.proofs.Common.{◌≡◌, ◌<◌, drop}
use Rattle.weather.specs.Numbers.{line_feed}
use Rattle.weather.specs.Split.{split}
use Rattle.weather.proofs.lines.behind_lines.Given as goal

abbrev pub invariant-loop-place : goal.invariant-loop-place
invariant-loop-place l = record { more : 0 < l.left; left_is : drop l.left (split line_feed (drop l.place l.file)) ≡ drop l.count (split line_feed l.file) }
