-- Laws of splitting bytes at a separator.
use Rattle.std.proofs.Common.{ℕ, suc, ◌+◌, ◌≤◌, ◌<◌, ◌≡◌, ◌⊎◌, inl, inr, Bool, true, false, not, cond, List, [], ◌∷◌, ◌++◌, length, get_or, drop, refl, sym, ap, ◌∙◌, arith, eq-eqb, rules, eqb}
use Rattle.std.specs.Prelude.{Option, Some, None, unwrap_or}
use Rattle.std.specs.List.{All, onto_first, position_or_len, before_first}
use Rattle.std.proofs.lemmas.Iterator.{YieldsList}
use Rattle.std.proofs.lemmas.Iterator.Consumers.{YieldsList-turn, YieldsList-end}
use Rattle.std.proofs.lemmas.List.{take_all}
use Rattle.std.proofs.lemmas.List.Folds.{length-prefix_len}
use Rattle.std.proofs.lemmas.Bool.{cases_lt}
use Rattle.std.proofs.lemmas.List.Elements.{All-cons}
use Rattle.std.proofs.lemmas.List.Splits.{slice_split_none, slice_split_at, slice_split_first}
use Rattle.std.proofs.lemmas.List.Sums.{fails_before_first}
use borrow.Author.Tests.{not-true}
use Rattle.std.proofs.lemmas.Bool.{and_parts}
use Rattle.weather.specs.Split.{split, without}

-- ---- there is at least one piece

pub record Pieces (pieces : List (List ℕ)) : Type 0 where
  pub first : List ℕ
  pub others : List (List ℕ)
  pub are : pieces ≡ first ∷ others

pub split_some : (c : ℕ) (bs : List ℕ) → Pieces (split c bs)
split_some c [] = record { first = []; others = []; are = refl }
split_some c (b ∷ bs) = go (eqb b c) (split c bs) (split_some c bs)
  where
    go : (t : Bool) (ps : List (List ℕ)) → Pieces ps → Pieces (cond t ([] ∷ ps) (onto_first b ps))
    go true ps s = record { first = []; others = ps; are = refl }
    go false ps s = record { first = b ∷ s.first; others = s.others; are = ap (onto_first b) s.are }

-- ---- a piece is what has no separator

each_without : (c : ℕ) (p : List ℕ) → without c p ≡ true → All (λ b. eqb b c ≡ false) p
unfolding without
each_without c [] h = search rules
each_without c (b ∷ p) h = let a = and_parts (not (eqb b c)) (without c p) h in All-cons (λ x. eqb x c ≡ false) b p (not-true (eqb b c) a.0) (each_without c p a.1)

pub split_last : (c : ℕ) (p : List ℕ) → without c p ≡ true → split c p ≡ p ∷ []
split_last c p h = slice_split_none (λ b. eqb b c) p (each_without c p h)

pub split_first : (c : ℕ) (p q : List ℕ) → without c p ≡ true → split c (p ++ c ∷ q) ≡ p ∷ split c q
split_first c p q h = slice_split_at (λ b. eqb b c) p c q (each_without c p h) (eq-eqb c c refl)

-- one byte more at the end
pub without_next : (c b : ℕ) (p : List ℕ) → without c p ≡ true → eqb b c ≡ false → without c (p ++ b ∷ []) ≡ true
unfolding without
without_next c b [] h d = rw d refl
without_next c b (x ∷ p) h d = let a = and_parts (not (eqb x c)) (without c p) h in rw a.0 (without_next c b p a.1 d)

-- ---- the first piece: what stands before the first separator, or all where there is none

module _ (c : ℕ) (bs first : List ℕ) (is : first ≡ before_first (λ b. eqb b c) bs) where
  first_length : length first ≡ position_or_len (λ b. eqb b c) bs
  first_length = ap length is ∙ length-prefix_len (λ b. not (eqb b c)) bs

  pub split_once : length first < length bs → split c bs ≡ first ∷ split c (drop (length first + 1) bs)
  split_once l =
      slice_split_first (λ b. eqb b c) bs 0 (omega (arith, first_length, l))
      ∙ ap (λ (p : List ℕ). p ∷ split c (drop (position_or_len (λ b. eqb b c) bs + 1) bs)) (sym is)
      ∙ ap (λ (n : ℕ). first ∷ split c (drop (n + 1) bs)) (sym first_length)

  pub split_never : length bs ≤ length first → split c bs ≡ bs ∷ []
  split_never l = slice_split_none (λ b. eqb b c) bs (λ k d m. fails_before_first (λ b. eqb b c) bs k d (omega (arith, first_length, l, m)))

  split_begins : (d : List ℕ) → get_or (split c bs) 0 d ≡ first
  split_begins d = go (cases_lt (length first) (length bs))
    where
      go : (length first < length bs) ⊎ (length bs ≤ length first) → get_or (split c bs) 0 d ≡ first
      go (inl l) = rw (split_once l) refl
      go (inr l) = rw (split_never l) (sym (is ∙ take_all (position_or_len (λ b. eqb b c) bs) bs (omega (arith, first_length, l))))

-- an iterator of the pieces gives this one first
pub first_given : (c : ℕ) (bs : List ℕ) {S A : Type 0} {steps : S → Option A → S → Type 0} {v : A → List ℕ} {s : S} (road : YieldsList steps v s (split c bs))
    (r : Option A) (t : S) (d : A) → steps s r t → v (unwrap_or r d) ≡ before_first (λ b. eqb b c) bs
first_given c bs {s} road (Some x) t d k = (YieldsList-turn road [] s refl (Some x) t x refl k).1 ∙ split_begins c bs (before_first (λ b. eqb b c) bs) refl _
first_given c bs {s} road None t d k =
    let pieces = split_some c bs in
    let some : length (split c bs) ≡ suc (length pieces.others) = ap length pieces.are in
    absurd (omega (arith, some, (YieldsList-end road [] s refl None t refl k).1))
