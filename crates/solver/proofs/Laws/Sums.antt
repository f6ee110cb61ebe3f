-- Loops that sum a term a turn. The invariant of such a loop is that adding what is left to the sum now gives the sum of all:
-- `sum2_add_all a (terms i n term) ≡ sum2_add_all sum2_zero (terms 0 n term)`.
use Rattle.std.proofs.Common.{◌≡◌, ap, ◌∙◌, [], ◌∷◌, ℕ, zero, suc, ◌+◌, ◌-◌, ◌≤◌, ◌<◌, add-one, arith, get_or, Float}
use Rattle.solver.specs.declared.sums.Sum2.{Sum2}
use Rattle.solver.specs.Sums.{sum2_add, sum2_add_all, terms_of, terms}

-- the terms that are left from i on: term i, and those from i + 1 on
pub terms_next : (term : ℕ → Float) (i n : ℕ) → i < n → terms i n term ≡ term i ∷ terms (i + 1) n term
unfolding terms_of
terms_next term i n h =
    let e : n - i ≡ suc (n - (i + 1)) = omega arith in
    rw (e, add-one i)

pub terms_done : (term : ℕ → Float) (i n : ℕ) → n ≤ i → terms i n term ≡ []
unfolding terms_of
terms_done term i n h =
    let e : n - i ≡ 0 = omega arith in
    rw e

-- a numbered term
terms_of_at : (term : ℕ → Float) (n i j : ℕ) (d : Float) → j < n → get_or (terms_of n i term) j d ≡ term (i + j)
unfolding terms_of
terms_of_at term zero i j d h = absurd (omega arith)
terms_of_at term (suc n) i zero d h = let e : i ≡ i + 0 = omega arith in ap term e
terms_of_at term (suc n) i (suc j) d h = let e : suc i + j ≡ i + suc j = omega arith in terms_of_at term n (suc i) j d (omega arith) ∙ ap term e

pub terms_at : (term : ℕ → Float) (n j : ℕ) (d : Float) → j < n → get_or (terms 0 n term) j d ≡ term j
terms_at term n j d h =
    let e : n - 0 ≡ n = omega arith in
    let z : 0 + j ≡ j = omega arith in
    rw e (terms_of_at term n 0 j d h ∙ ap term z)

-- over numbered terms
pub sum2_terms_next : (a : Sum2) (term : ℕ → Float) (i n : ℕ) → i < n → sum2_add_all a (terms i n term) ≡ sum2_add_all (sum2_add a (term i)) (terms (i + 1) n term)
unfolding sum2_add_all
sum2_terms_next a term i n h = rw (terms_next term i n h)

pub sum2_terms_done : (a : Sum2) (term : ℕ → Float) (i n : ℕ) → n ≤ i → sum2_add_all a (terms i n term) ≡ a
unfolding sum2_add_all
sum2_terms_done a term i n h = rw (terms_done term i n h)
