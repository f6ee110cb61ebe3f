-- An answer, or a refusal with its number and its index, 0 where it has none (Specification, What a refusal is).
use Rattle.std.specs.Prelude.{Bool, true, false, ℕ}

pub data Result (A : Type 0) : Type 0 where
  ok : A → Result A
  refused : (number index : ℕ) → Result A

module _ {A B : Type 0} where
  -- goes on with an answer; a refusal stays
  abbrev pub bind : Result A → (A → Result B) → Result B
  bind (ok a) f = f a
  bind (refused c j) f = refused c j

-- goes on where the test holds, else refuses
abbrev pub require_at : Bool → (number index : ℕ) → Result (Unit {0})
require_at true c j = ok tt
require_at false c j = refused c j

abbrev pub require : Bool → (number : ℕ) → Result (Unit {0})
require b c = require_at b c 0
