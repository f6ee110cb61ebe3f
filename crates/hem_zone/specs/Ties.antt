-- What is shown of the contract of each exported function (proofs/Ties.antt, which alone can name a contract): for any arguments it asks
-- nothing of its caller, and what it ensures is that the returned number and the lent arrays are the definition's.
-- Specification, Of every call.
use Rattle.std.specs.Prelude.{ℕ, ◌≡◌}

-- `asks` and `ensures` are the contract's own; `outcome` is the returned number beside what was left in the lent arrays
pub record Tied {Given Left Outcome : Type 0} (asks : Given → Type 0) (ensures : Given → ℕ → Left → Type 0)
    (outcome : ℕ → Left → Outcome) (definition : Given → Outcome) : Type 0 where
  pub asks_nothing : (given : Given) → asks given
  pub is_definition : (given : Given) (returned : ℕ) (left : Left) → ensures given returned left → outcome returned left ≡ definition given
