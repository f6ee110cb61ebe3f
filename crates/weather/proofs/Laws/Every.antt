-- Every file is lines, and every line is fields.
use Rattle.std.proofs.Common.{ℕ, ◌≡◌, refl, ap, ◌∙◌, Bool, true, false, List, [], ◌∷◌, ◌++◌, eqb, eqb-true}
use Rattle.weather.specs.Numbers.{line_feed, comma}
use Rattle.weather.specs.Split.{without}
use Rattle.weather.specs.Claims.{joined, separated, all_without, FileLines, LineFields}

-- one byte more before lines
file_more : (b : ℕ) (bs : List ℕ) (t : Bool) → eqb b line_feed ≡ t → FileLines bs → FileLines (b ∷ bs)
unfolding all_without without joined
file_more b bs true e f = record {
  earlier = [] ∷ f.earlier;
  line = f.line;
  earlier_apart = f.earlier_apart;
  line_apart = f.line_apart;
  is_file = ap (λ (x : ℕ). x ∷ bs) (eqb-true b line_feed e) ∙ ap (λ (l : List ℕ). line_feed ∷ l) f.is_file;
}
file_more b bs false e f = go f.earlier f.earlier_apart f.is_file
  where
    go : (earlier : List (List ℕ)) → all_without line_feed earlier ≡ true → bs ≡ joined earlier ++ f.line → FileLines (b ∷ bs)
    go [] a i = record { earlier = []; line = b ∷ f.line; earlier_apart = refl; line_apart = rw e f.line_apart; is_file = ap (λ (l : List ℕ). b ∷ l) i }
    go (p ∷ ps) a i = record { earlier = (b ∷ p) ∷ ps; line = f.line; earlier_apart = rw e a; line_apart = f.line_apart; is_file = ap (λ (l : List ℕ). b ∷ l) i }

pub every_file : (file : List ℕ) → FileLines file
unfolding all_without without joined
every_file [] = record { earlier = []; line = []; earlier_apart = refl; line_apart = refl; is_file = refl }
every_file (b ∷ bs) = file_more b bs (eqb b line_feed) refl (every_file bs)

-- one byte more before fields
line_more : (b : ℕ) (bs : List ℕ) (t : Bool) → eqb b comma ≡ t → LineFields bs → LineFields (b ∷ bs)
unfolding all_without without separated
line_more b bs t e f = go t e f.fields f.apart f.is_line
  where
    go : (t : Bool) → eqb b comma ≡ t → (fields : List (List ℕ)) → all_without comma fields ≡ true → bs ≡ separated fields → LineFields (b ∷ bs)
    go true e [] a i = record { fields = [] ∷ [] ∷ []; apart = refl; is_line = ap (λ (x : ℕ). x ∷ bs) (eqb-true b comma e) ∙ ap (λ (l : List ℕ). comma ∷ l) i }
    go true e (p ∷ ps) a i = record { fields = [] ∷ p ∷ ps; apart = a; is_line = ap (λ (x : ℕ). x ∷ bs) (eqb-true b comma e) ∙ ap (λ (l : List ℕ). comma ∷ l) i }
    go false e [] a i = record { fields = (b ∷ []) ∷ []; apart = rw e refl; is_line = ap (λ (l : List ℕ). b ∷ l) i }
    go false e (p ∷ []) a i = record { fields = (b ∷ p) ∷ []; apart = rw e a; is_line = ap (λ (l : List ℕ). b ∷ l) i }
    go false e (p ∷ q ∷ ps) a i = record { fields = (b ∷ p) ∷ q ∷ ps; apart = rw e a; is_line = ap (λ (l : List ℕ). b ∷ l) i }

pub every_line : (line : List ℕ) → LineFields line
unfolding all_without separated
every_line [] = record { fields = []; apart = refl; is_line = refl }
every_line (b ∷ bs) = line_more b bs (eqb b comma) refl (every_line bs)
