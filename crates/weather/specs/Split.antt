-- What stands between the separators of a byte string: line feeds, commas or points.
-- Specification, Weather of a line; Decimals of a weather file.
use Rattle.std.specs.Prelude.{ℕ, Bool, true, not, ◌&&◌, ◌==◌, List, [], ◌∷◌}
use Rattle.std.specs.List.{slice_split}

-- The pieces that the separator splits bytes into, empty ones too: one more than it has separators.
abbrev pub split : (separator : ℕ) → List ℕ → List (List ℕ)
split c bs = slice_split (λ b. b == c) bs

-- none of the bytes is the separator
unfoldable pub without : (separator : ℕ) → List ℕ → Bool
without c [] = true
without c (b ∷ bs) = not (b == c) && without c bs
