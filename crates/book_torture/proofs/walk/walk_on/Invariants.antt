use Rattle.std.proofs.Common.{length, ◌-◌}
use Rattle.book_torture.proofs.walk.walk_on.Given as goal

abbrev pub decreases-loop-further : goal.decreases-loop-further
decreases-loop-further l = length l.b - l.walked.used
