-- For each number of a range, in order: a state that a counting loop changes, and a test.
use Rattle.std.specs.Prelude.{ℕ, zero, suc, ◌-◌, Bool, true, ◌&&◌}

module _ {A : Type 0} where
  -- n times, with the numbers from i on
  unfoldable pub repeat_of : ℕ → ℕ → (ℕ → A → A) → A → A
  repeat_of zero i f s = s
  repeat_of (suc n) i f s = repeat_of n (suc i) f (f i s)

  -- for each i from a up to b, b left out
  abbrev pub repeat : ℕ → ℕ → (ℕ → A → A) → A → A
  repeat a b f s = repeat_of (b - a) a f s

  -- for each i from n - 1 down to 0
  unfoldable pub repeat_down : ℕ → (ℕ → A → A) → A → A
  repeat_down zero f s = s
  repeat_down (suc n) f s = repeat_down n f (f n s)

-- of n numbers from i on, all pass the test
unfoldable pub all_of : ℕ → ℕ → (ℕ → Bool) → Bool
all_of zero i test = true
all_of (suc n) i test = test i && all_of n (suc i) test

-- of the numbers from a up to b, b left out
abbrev pub all : ℕ → ℕ → (ℕ → Bool) → Bool
all a b test = all_of (b - a) a test
