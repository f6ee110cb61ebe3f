-- The lines of a weather file and the fields of a line, by splitting the whole of it.
-- Specification, Weather of a line.
use Rattle.std.specs.Prelude.{ℕ, zero, suc, ◌-◌, ◌==◌, if◌then◌else◌, List, [], ◌∷◌, length, take, drop, Option, None, slice_get, slice_index}
use Rattle.weather.specs.Numbers.{line_feed, carriage_return, comma, header_lines}
use Rattle.weather.specs.Split.{split}

-- without the one carriage return at the end, where there is one
abbrev pub without_return : List ℕ → List ℕ
without_return bs = if slice_index bs (length bs - 1) == carriage_return then take (length bs - 1) bs else bs

-- Of the pieces between line feeds each but the last ended with a line feed, and loses a carriage return right before it; the last keeps its own.
unfoldable pub ended : List (List ℕ) → List (List ℕ)
ended [] = []
ended (last ∷ []) = last ∷ []
ended (line ∷ next ∷ others) = without_return line ∷ ended (next ∷ others)

-- A line ends with LF, or with CR LF; what stands behind the last LF is a line too.
unfoldable pub lines : (file : List ℕ) → List (List ℕ)
unfolding ended
lines file = ended (split line_feed file)

-- the line of this number, counted from 1 behind the headers
unfoldable pub line_of : (file : List ℕ) → (line : ℕ) → Option (List ℕ)
line_of file zero = None
line_of file (suc before) = slice_get (drop header_lines (lines file)) before

-- a field of a line, counted from 1; commas part them
unfoldable pub field_of : (line : List ℕ) → (place : ℕ) → Option (List ℕ)
field_of line place = slice_get (split comma line) (place - 1)
