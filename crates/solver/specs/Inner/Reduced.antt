-- The right side with the last step of each chain apart. Loads are added at the inner surfaces and the air alone, which the steps before the last do not
-- read: so those steps are made once for several loads. proofs/Laws/Reduction.antt and Loaded.antt prove that this is `reduce_right_sides` of specs/Chain.antt, bit for bit.
use Rattle.std.specs.Prelude.{ℕ, ◌+◌, ◌*◌, List, Bool, get_or, set, replicate, Float}
use Rattle.std.specs.Float.{nan}
use Rattle.solver.specs.F64.{◌+ᶠ◌, ◌-ᶠ◌, ◌*ᶠ◌, ◌/ᶠ◌, zero64}
use Rattle.solver.specs.Rows.{set_entry}
use Rattle.solver.specs.Repeat.{repeat}
use Rattle.solver.specs.Chain.{outer_slot, adjust_right_side}

-- an element's chain, from its outer surface to the node before its inner surface
unfoldable pub reduce_chain : List Bool → List Float → List Float → ℕ → List Float → List Float
reduce_chain two_nodes diag prev e b = repeat (outer_slot two_nodes e) (5 * e + 3) (adjust_right_side diag prev) b

unfoldable pub reduce_chains : ℕ → List Bool → List Float → List Float → List Float → List Float
reduce_chains n two_nodes diag prev b = repeat 0 n (reduce_chain two_nodes diag prev) b

-- what the last step of element e's chain subtracts at its inner surface
abbrev pub inner_share : List Float → List Float → List Float → ℕ → Float
inner_share diag prev b e = get_or b (5 * e + 3) nan *ᶠ get_or prev (5 * e + 4) nan /ᶠ get_or diag (5 * e + 3) nan

abbrev pub set_inner_share : List Float → List Float → List Float → ℕ → List Float → List Float
set_inner_share diag prev b e inner = set inner e (inner_share diag prev b e)

unfoldable pub inner_shares : ℕ → List Float → List Float → List Float → List Float → List Float
inner_shares n diag prev b inner = repeat 0 n (set_inner_share diag prev b) inner

-- The dense part's right side, from a right side whose chains are reduced: at each inner surface what f makes of its right side, less the last step's
-- share; and the air's.
abbrev pub gathered_inner : (Float → Float) → List Float → List Float → ℕ → List Float → List Float
gathered_inner f b inner e v = set v e (f (get_or b (5 * e + 4) nan) -ᶠ get_or inner e nan)

abbrev pub gathered : ℕ → (Float → Float) → List Float → List Float → Float → List Float
gathered n f b inner air = set (repeat 0 n (gathered_inner f b inner) (replicate 25 zero64)) n air

-- without a load
unfoldable pub gather_reduced : ℕ → List Float → List Float → List Float
gather_reduced n b inner = gathered n (λ x. x) b inner (get_or b 120 nan)

-- a load: gains at each inner surface, and the right side of the air
abbrev pub add_gains : Float → ℕ → List Float → List Float
add_gains gains e b = set b (5 * e + 4) (get_or b (5 * e + 4) nan +ᶠ gains)

unfoldable pub with_load : ℕ → (gains air : Float) → List Float → List Float
with_load n gains air b = set (repeat 0 n (add_gains gains) b) 120 air

-- with a load
unfoldable pub gather_loaded : ℕ → List Float → List Float → (gains air : Float) → List Float
gather_loaded n b inner gains air = gathered n (λ x. x +ᶠ gains) b inner air

-- one turn of gathering, of scattering and of the inner diagonals (specs/FastSolver.antt)
abbrev pub gather_inner : List Float → ℕ → List Float → List Float
gather_inner b e v = set v e (get_or b (5 * e + 4) nan)

abbrev pub scatter_inner : List Float → ℕ → List Float → List Float
scatter_inner v e t = set t (5 * e + 4) (get_or v e nan)

abbrev pub set_inner_diagonal : List Float → ℕ → List Float → List Float
set_inner_diagonal diag e dense = set_entry e e (get_or diag (5 * e + 4) nan) dense
