-- Node order: element by element, outer to inner surface, the air last: to slots and back is the same.
-- Specification, Node order.
use Rattle.std.specs.Prelude.{ℕ, ◌+◌, ◌<◌, ◌≡◌, Bool, List, length, get_or, Float}
use Rattle.std.specs.Float.{nan}
use Rattle.solver.specs.F64.{zero64}
use Rattle.solver.specs.Chain.{outer_slot}
use Rattle.solver.specs.FastSolver.{at_most24}
use Rattle.zone.specs.Physics.NodeLayout.{nodes_at, first_node, to_slots, to_nodes}

pub record NodeOrder (two_nodes : List Bool) (count : ℕ) : Type 0 where
  -- temperatures in node order, 0.0 behind the air
  pub back : (t : List Float) → length t ≡ 121
      → ((q : ℕ) → first_node two_nodes (at_most24 count) < q → q < 121 → get_or t q nan ≡ zero64)
      → to_nodes count two_nodes (to_slots count two_nodes t) ≡ t
  -- temperatures in slots: each node's, and the air's
  pub again : (s : List Float) (e j : ℕ) → e < at_most24 count → j < nodes_at two_nodes e
      → get_or (to_slots count two_nodes (to_nodes count two_nodes s)) (outer_slot two_nodes e + j) nan ≡ get_or s (outer_slot two_nodes e + j) nan
  pub air : (s : List Float) → get_or (to_slots count two_nodes (to_nodes count two_nodes s)) 120 nan ≡ get_or s 120 nan
