-- The elements that count: 24 at most.
use Rattle.std.proofs.Common.{◌≡◌, ℕ, min, arith}
use Rattle.std.proofs.lemmas.Bool.Decides.{nat_tests}
use Rattle.solver.specs.FastSolver.{at_most24}

pub min_24 : (n : ℕ) → min n 24 ≡ at_most24 n
min_24 n = grind (arith, nat_tests)
