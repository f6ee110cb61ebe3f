-- Node order, element by element from the outer to the inner surface and then the internal air, against slots.
-- Specification, Node order; Which coefficients are kept.
use Rattle.std.specs.Prelude.{ℕ, zero, suc, ◌+◌, ◌-◌, ◌*◌, Bool, List, get_or, set, replicate, Float}
use Rattle.std.specs.Float.{nan}
use Rattle.solver.specs.F64.{zero64}
use Rattle.solver.specs.Repeat.{repeat}
use Rattle.solver.specs.Chain.{outer_slot}
use Rattle.solver.specs.FastSolver.{at_most24}

-- how many nodes element e has: the slots from its outer to its inner surface
abbrev pub nodes_at : List Bool → ℕ → ℕ
nodes_at two_nodes e = 5 * e + 5 - outer_slot two_nodes e

-- the node of element e's outer surface: the nodes of the elements before it are counted
unfoldable pub first_node : List Bool → ℕ → ℕ
first_node two_nodes zero = 0
first_node two_nodes (suc e) = first_node two_nodes e + nodes_at two_nodes e

-- entry from + j of a goes to place to + j of b
abbrev pub move : (from to : ℕ) → List Float → ℕ → List Float → List Float
move from to a j b = set b (to + j) (get_or a (from + j) nan)

-- k entries of a, from place `from` on, go to b, from place `to` on
unfoldable pub copy_nodes : (k from to : ℕ) → List Float → List Float → List Float
copy_nodes k from to a b = repeat 0 k (move from to a) b

-- the nodes of element e go to its slots, and back
abbrev pub to_slots_at : List Bool → List Float → ℕ → List Float → List Float
to_slots_at two_nodes t e slots = copy_nodes (nodes_at two_nodes e) (first_node two_nodes e) (outer_slot two_nodes e) t slots

abbrev pub to_nodes_at : List Bool → List Float → ℕ → List Float → List Float
to_nodes_at two_nodes slots e t = copy_nodes (nodes_at two_nodes e) (outer_slot two_nodes e) (first_node two_nodes e) slots t

-- Slots that no node has hold 0.0.
unfoldable pub to_slots : (count : ℕ) → List Bool → (temps : List Float) → List Float
to_slots count two_nodes t =
    let n = at_most24 count in
    set (repeat 0 n (to_slots_at two_nodes t) (replicate 121 zero64)) 120 (get_or t (first_node two_nodes n) nan)

-- Places behind the internal air hold 0.0.
unfoldable pub to_nodes : (count : ℕ) → List Bool → (slots : List Float) → List Float
to_nodes count two_nodes slots =
    let n = at_most24 count in
    set (repeat 0 n (to_nodes_at two_nodes slots) (replicate 121 zero64)) (first_node two_nodes n) (get_or slots 120 nan)
