-- What a kept matrix holds, in the words of Kept.antt.
use Rattle.std.specs.Prelude.{ℕ, Bool, true, false, List, [], ◌∷◌, replicate, Option, Some, None, Float}
use Rattle.solver.specs.F64.{zero64}
use Rattle.solver.specs.declared.chain.Chains as Kept
use Rattle.solver.specs.declared.system.Factors.{Factors}
use Rattle.zone.specs.declared.physics.assembly.Key as Rust
use Rattle.zone.specs.declared.hour.kept.KeptMatrix.{KeptMatrix}
use Rattle.zone.specs.declared.physics.assembly.ElementSums.{ElementSums}
use Rattle.zone.specs.declared.record.building_element.HeatFlowDirection.{HeatFlowDirection}
use Rattle.zone.specs.declared.record.building_element.HeatFlowDirection.TheVariants.{Horizontal}
use Rattle.zone.specs.Inner.Assembly.{Chains, chains}
use Rattle.zone.specs.Inner.Kept.{Arrays, arrays, Key, Held, held, same_key}

abbrev pub chains_in : Kept.Chains → Chains
chains_in c = chains c.diag c.next c.prev

abbrev pub arrays_in : Factors → Arrays
arrays_in f = arrays f.chains.two_nodes f.chains.diag f.chains.next f.chains.prev f.lu.matrix f.lu.interchanges

abbrev pub key_in : Rust.Key → Key
key_in key = (key.directions, key.opens)

abbrev pub numbers_with : ElementSums → (delta_t : Float) → List Float
numbers_with sums delta_t = sums.area_el_total ∷ sums.convective ∷ delta_t ∷ []

abbrev pub is_held : Option Rust.Key → Bool
is_held None = false
is_held (Some key) = true

abbrev pub held_with_key : KeptMatrix → Option Rust.Key → Held
held_with_key k None = held (false ∷ k.factors.valid ∷ []) (numbers_with k.sums zero64) (replicate 24 Horizontal, replicate 24 0) (arrays_in k.factors) k.column
held_with_key k (Some key) = held (true ∷ k.factors.valid ∷ []) (numbers_with k.sums key.delta_t) (key_in key) (arrays_in k.factors) k.column

abbrev pub held_in : KeptMatrix → Held
held_in k = held_with_key k k.key

-- whether the matrix of an hour of n elements is held
abbrev pub holds_key : Option Rust.Key → (n : ℕ) (directions : List HeatFlowDirection) (opens : List ℕ) (delta_t : Float) → Bool
holds_key None n directions opens delta_t = false
holds_key (Some key) n directions opens delta_t = same_key true key.delta_t delta_t n (key_in key) directions opens

abbrev pub holds : KeptMatrix → (n : ℕ) (directions : List HeatFlowDirection) (opens : List ℕ) (delta_t : Float) → Bool
holds k n directions opens delta_t = holds_key k.key n directions opens delta_t
