-- Laws of the lines of a file: from the pieces between its line feeds, and from what stands behind so many of these.
use Rattle.std.proofs.Common.{ℕ, zero, suc, ◌+◌, ◌-◌, ◌≤◌, ◌<◌, ◌≡◌, List, [], ◌∷◌, length, get_or, drop, refl, sym, ap, ◌∙◌, eqb, eq-eqb, ne_eqb, arith}
use Rattle.std.specs.Prelude.{Some, None, slice_get}
use Rattle.std.specs.List.{before_first, onto_first}
use Rattle.std.proofs.lemmas.List.{drop_more}
use Rattle.std.proofs.lemmas.List.Splits.{slice_split-cons_yes, slice_split-cons_no}
use lib.Seq.{drop-nil}
use Rattle.weather.specs.Numbers.{line_feed, header_lines}
use Rattle.weather.specs.Split.{split}
use Rattle.weather.specs.Lines.{without_return, ended, lines, line_of}
use Rattle.weather.proofs.Laws.Split.{Pieces, split_some, split_once, split_never}

-- ---- the lines, from the pieces

-- an element is the first of what is left from it on
at_drop : {A : Type 0} (l : List A) (n : ℕ) → slice_get l n ≡ slice_get (drop n l) 0
at_drop {A} [] n = rw (drop-nil {A = A} n) refl
at_drop (a ∷ l) zero = refl
at_drop (a ∷ l) (suc n) = at_drop l n

ended_drop : (n : ℕ) (ps : List (List ℕ)) → drop n (ended ps) ≡ ended (drop n ps)
unfolding ended
ended_drop zero ps = refl
ended_drop (suc n) [] = refl
ended_drop (suc n) (p ∷ []) = rw (drop-nil {A = List ℕ} n) refl
ended_drop (suc n) (p ∷ q ∷ ps) = ended_drop n (q ∷ ps)

-- the line with n lines behind the headers before it
line_from : (file : List ℕ) (n : ℕ) → line_of file (suc n) ≡ slice_get (ended (drop header_lines (split line_feed file))) n
unfolding line_of lines
line_from file n = ap (λ (l : List (List ℕ)). slice_get l n) (ended_drop header_lines (split line_feed file))

-- the line is the first of what is left from it on
pub line_left : (file : List ℕ) (before : ℕ) → line_of file (suc before) ≡ slice_get (ended (drop before (drop header_lines (split line_feed file)))) 0
line_left file before =
    let pieces : List (List ℕ) = drop header_lines (split line_feed file) in
    line_from file before ∙ at_drop (ended pieces) before ∙ ap (λ (l : List (List ℕ)). slice_get l 0) (ended_drop before pieces)

-- ---- what stands behind lines of which so many are left to go over, and one byte further on

-- a byte more at the start of the first piece, which is dropped
drop_onto : (b left : ℕ) (pieces : List (List ℕ)) → Pieces pieces → 0 < left → drop left (onto_first b pieces) ≡ drop left pieces
drop_onto b zero pieces s l = absurd (omega (arith, l))
drop_onto b (suc n) pieces s l = rw s.are refl

module _ (file : List ℕ) (place left : ℕ) (inside : place < length file) (more : 0 < left) where
  pub behind_feed : get_or file place 0 ≡ line_feed → drop (left - 1) (split line_feed (drop (place + 1) file)) ≡ drop left (split line_feed (drop place file))
  behind_feed h =
      let later : List ℕ = drop (place + 1) file in
      let one : left ≡ suc (left - 1) = omega (arith, more) in
      rw (drop_more file place 0 inside, slice_split-cons_yes (λ b. eqb b line_feed) (get_or file place 0) later (eq-eqb _ _ h))
      (sym (ap (λ (n : ℕ). drop n ([] ∷ split line_feed later)) one))

  pub behind_other : (get_or file place 0 ≡ line_feed → ⊥) → drop left (split line_feed (drop (place + 1) file)) ≡ drop left (split line_feed (drop place file))
  behind_other h =
      let later : List ℕ = drop (place + 1) file in
      rw (drop_more file place 0 inside, slice_split-cons_no (λ b. eqb b line_feed) (get_or file place 0) later (ne_eqb _ _ h))
      (sym (drop_onto (get_or file place 0) left (split line_feed later) (split_some line_feed later) more))

-- ---- the line, from what stands behind the headers and from the line on

module _ (file : List ℕ) (line before : ℕ) (is : line ≡ suc before) where
  line_at : (pieces : List (List ℕ)) → pieces ≡ drop before (drop header_lines (split line_feed file)) → line_of file line ≡ slice_get (ended pieces) 0
  line_at pieces e = ap (line_of file) is ∙ line_left file before ∙ ap (λ (l : List (List ℕ)). slice_get (ended l) 0) (sym e)

  pub few_headers : drop header_lines (split line_feed file) ≡ [] → line_of file line ≡ None
  unfolding ended
  few_headers e = line_at [] (sym (ap (drop before) e ∙ drop-nil {A = List ℕ} before))

  module _ (behind : List ℕ) (of_file : split line_feed behind ≡ drop header_lines (split line_feed file)) where
    pub line_absent : drop before (split line_feed behind) ≡ [] → line_of file line ≡ None
    unfolding ended
    line_absent e = line_at [] (sym e ∙ ap (drop before) of_file)

    module _ (found : List ℕ) (of_lines : split line_feed found ≡ drop before (split line_feed behind)) where
      from_found : line_of file line ≡ slice_get (ended (split line_feed found)) 0
      from_found = line_at (split line_feed found) (of_lines ∙ ap (drop before) of_file)

      module _ (first : List ℕ) (first_is : first ≡ before_first (λ b. eqb b line_feed) found) where
        pub line_last : length found ≤ length first → line_of file line ≡ Some found
        unfolding ended
        line_last l = from_found ∙ rw (split_never line_feed found first first_is l) refl

        pub line_other : length first < length found → line_of file line ≡ Some (without_return first)
        unfolding ended
        line_other l =
            let others = split_some line_feed (drop (length first + 1) found) in
            from_found ∙ rw (split_once line_feed found first first_is l, others.are) refl
