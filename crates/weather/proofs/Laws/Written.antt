-- Laws of files that are written line by line and of lines that are written field by field: they split into what they are written of.
use Rattle.std.proofs.Common.{ℕ, suc, ◌+◌, ◌≤◌, ◌<◌, ◌≡◌, refl, ap, ◌∙◌, true, List, [], ◌∷◌, ◌++◌, append_assoc, arith, length, length-append, drop, drop_of_length-le, drop-drop, drop_at}
use Rattle.std.specs.Prelude.{Some, None, slice_get}
use Rattle.std.proofs.lemmas.Grind.{common_steps}
use Rattle.std.proofs.lemmas.Bool.{and_parts}
use Rattle.weather.specs.Numbers.{line_feed, carriage_return, comma, header_lines}
use Rattle.weather.specs.Split.{split, without}
use Rattle.weather.specs.Lines.{without_return, ended, line_of}
use Rattle.weather.specs.Claims.{joined, separated, all_without}
use Rattle.weather.proofs.Laws.Split.{split_first, split_last, split_some, without_next}
use Rattle.weather.proofs.Laws.Lines.{line_left}

-- ---- lines

-- lines that are written are the first pieces between line feeds
pub split_joined : (earlier : List (List ℕ)) (rest : List ℕ) → all_without line_feed earlier ≡ true → split line_feed (joined earlier ++ rest) ≡ earlier ++ split line_feed rest
unfolding all_without joined
split_joined [] rest h = refl
split_joined (p ∷ ps) rest h =
    let a = and_parts (without line_feed p) (all_without line_feed ps) h in
    ap (split line_feed) (append_assoc p (line_feed ∷ joined ps) rest)
    ∙ split_first line_feed p (joined ps ++ rest) a.0
    ∙ ap (λ (l : List (List ℕ)). p ∷ l) (split_joined ps rest a.1)

module _ (earlier : List (List ℕ)) (n : ℕ) (rest : List ℕ) (apart : all_without line_feed earlier ≡ true) where
  -- what is left behind the headers and n lines more
  left : drop n (drop header_lines (split line_feed (joined earlier ++ rest))) ≡ drop (header_lines + n) (earlier ++ split line_feed rest)
  left = drop-drop n header_lines (split line_feed (joined earlier ++ rest)) ∙ ap (λ (l : List (List ℕ)). drop (header_lines + n) l) (split_joined earlier rest apart)

  -- the line with n lines behind the headers before it is the first of what is left
  first_left : line_of (joined earlier ++ rest) (suc n) ≡ slice_get (ended (drop (header_lines + n) (earlier ++ split line_feed rest))) 0
  first_left = line_left (joined earlier ++ rest) n ∙ ap (λ (l : List (List ℕ)). slice_get (ended l) 0) left

  -- the line behind so many lines is the first of the rest
  pub line_behind : length earlier ≡ header_lines + n → line_of (joined earlier ++ rest) (suc n) ≡ slice_get (ended (split line_feed rest)) 0
  line_behind h = first_left ∙ ap (λ (l : List (List ℕ)). slice_get (ended l) 0) (drop_at earlier (split line_feed rest) (header_lines + n) h)

  -- there is no line behind the last
  pub line_none : without line_feed rest ≡ true → length earlier < header_lines + n → line_of (joined earlier ++ rest) (suc n) ≡ None
  unfolding ended
  line_none w h =
      let pieces : earlier ++ split line_feed rest ≡ earlier ++ rest ∷ [] = ap (λ (l : List (List ℕ)). earlier ++ l) (split_last line_feed rest w) in
      let few : length (earlier ++ rest ∷ []) ≤ header_lines + n = omega (arith, length-append earlier (rest ∷ []), h) in
      first_left
      ∙ ap (λ (l : List (List ℕ)). slice_get (ended l) 0) (ap (λ (l : List (List ℕ)). drop (header_lines + n) l) pieces ∙ drop_of_length-le (earlier ++ rest ∷ []) few)

-- a line that ends with a line feed
pub first_ended : (line rest : List ℕ) → without line_feed line ≡ true → slice_get (ended (split line_feed (line ++ line_feed ∷ rest))) 0 ≡ Some (without_return line)
unfolding ended
first_ended line rest w = let s = split_some line_feed rest in rw (split_first line_feed line rest w, s.are) refl

-- and one that the file ends
pub last_ended : (line : List ℕ) → without line_feed line ≡ true → slice_get (ended (split line_feed line)) 0 ≡ Some line
unfolding ended
last_ended line w = rw (split_last line_feed line w) refl

-- a carriage return at the end is taken off
pub return_off_end : (line : List ℕ) → without_return (line ++ carriage_return ∷ []) ≡ line
return_off_end line = grind (arith, common_steps)

pub return_apart : (line : List ℕ) → without line_feed line ≡ true → without line_feed (line ++ carriage_return ∷ []) ≡ true
return_apart line w = without_next line_feed carriage_return line w refl

-- ---- fields

-- fields that are written, at least one, are the pieces between commas
pub split_separated : (f : List ℕ) (fs : List (List ℕ)) → all_without comma (f ∷ fs) ≡ true → split comma (separated (f ∷ fs)) ≡ f ∷ fs
unfolding all_without separated
split_separated f [] h = split_last comma f (and_parts (without comma f) true h).0
split_separated f (g ∷ gs) h =
    let a = and_parts (without comma f) (all_without comma (g ∷ gs)) h in
    split_first comma f (separated (g ∷ gs)) a.0 ∙ ap (λ (l : List (List ℕ)). f ∷ l) (split_separated g gs a.1)
