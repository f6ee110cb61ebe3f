-- Loops and lists whose turns or entries are functions of a number.
use Rattle.std.proofs.Common.{◌≡◌, refl, sym, ap, subst, ◌∙◌, ⊎_elim, List, [], ◌∷◌, ℕ, zero, suc, ◌+◌, ◌-◌, ◌≤◌, ◌<◌, eq-or-lt_of_le, add-one, arith, length, get_or, set, take, drop, length-set, get_or-set_same, get_or-set_other, Float}
use lib.Ieee.{nan}
use Rattle.solver.specs.Repeat.{repeat_of, repeat}
use Rattle.solver.specs.Sums.{sum2, terms_of, terms}
use Rattle.solver.proofs.Promise.{drop_next}
use Rattle.zone.specs.Physics.Slots.{set_term, with_terms}
use Rattle.zone.specs.Inner.Assembly.{at}

module _ {A : Type 0} (f g : ℕ → A → A) where
  same_of : (k i : ℕ) (s : A) → ((j : ℕ) → j < i + k → (s : A) → f j s ≡ g j s) → repeat_of k i f s ≡ repeat_of k i g s
  unfolding repeat_of
  same_of zero i s h = refl
  same_of (suc k) i s h =
      ap (repeat_of k (suc i) f) (h i (omega arith) s) ∙ same_of k (suc i) (g i s) (λ j l. h j (omega arith))

  -- turns that agree below n
  pub repeat_same : (n : ℕ) (s : A) → ((j : ℕ) → j < n → (s : A) → f j s ≡ g j s) → repeat 0 n f s ≡ repeat 0 n g s
  repeat_same n s h = same_of (n - 0) 0 s (λ j l. h j (omega arith))

module _ {A : Type 0} (f : ℕ → List A → List A) (keeps : (j : ℕ) (l : List A) → length (f j l) ≡ length l) where
  -- turns that keep a list's length
  pub repeat_length : (k i : ℕ) (l : List A) → length (repeat_of k i f l) ≡ length l
  unfolding repeat_of
  repeat_length zero i l = refl
  repeat_length (suc k) i l = repeat_length k (suc i) (f i l) ∙ keeps i l

module _ (f g : ℕ → Float) where
  terms_same_of : (k i : ℕ) → ((j : ℕ) → j < i + k → f j ≡ g j) → terms_of k i f ≡ terms_of k i g
  unfolding terms_of
  terms_same_of zero i h = refl
  terms_same_of (suc k) i h =
      rw (h i (omega arith)) (ap (λ (l : List Float). g i ∷ l) (terms_same_of k (suc i) (λ j l. h j (omega arith))))

  -- terms that agree below n
  pub terms_same : (n : ℕ) → ((j : ℕ) → j < n → f j ≡ g j) → terms 0 n f ≡ terms 0 n g
  terms_same n h = terms_same_of (n - 0) 0 (λ j l. h j (omega arith))

numbered_from : (f : ℕ → Float) (l : List Float) (i : ℕ) → ((j : ℕ) → j < length l → f (i + j) ≡ get_or l j nan) → terms_of (length l) i f ≡ l
unfolding terms_of
numbered_from f [] i h = refl
numbered_from f (x ∷ xs) i h =
    let here : i + 0 ≡ i = omega arith in
    let first : f i ≡ x = ap f (sym here) ∙ h 0 (omega arith) in
    let rest = numbered_from f xs (suc i) (λ j l. let next : suc i + j ≡ i + suc j = omega arith in ap f next ∙ h (suc j) (omega arith)) in
    rw (first, rest) refl

-- the numbers of a list, each by its place, are the list
pub numbered : (l : List Float) → terms 0 (length l) (at l) ≡ l
numbered l = let all : length l - 0 ≡ length l = omega arith in rw all (numbered_from (at l) l 0 (λ j h. let here : 0 + j ≡ j = omega arith in ap (at l) here))

-- a loop that stores f j at place j
abbrev pub store : {A : Type 0} → (ℕ → ℕ) → (ℕ → A) → ℕ → List A → List A
store place f j l = set l (place j) (f j)

module _ {A : Type 0} (place : ℕ → ℕ) (f : ℕ → A) (d : A) where
  -- what stands at another place stays
  pub store_other : (k i : ℕ) (l : List A) (q : ℕ) → ((j : ℕ) → i ≤ j → j < i + k → q ≡ place j → ⊥)
      → get_or (repeat_of k i (store place f) l) q d ≡ get_or l q d
  unfolding repeat_of
  store_other zero i l q h = refl
  store_other (suc k) i l q h =
      store_other k (suc i) (set l (place i) (f i)) q (λ j a b. h j (omega arith) (omega arith))
      ∙ get_or-set_other l (place i) q (f i) d (h i (omega arith) (omega arith))

  store_first : (k i : ℕ) (l : List A) → place i < length l → ((j : ℕ) → i < j → place i ≡ place j → ⊥)
      → get_or (repeat_of k (suc i) (store place f) (set l (place i) (f i))) (place i) d ≡ f i
  store_first k i l h differ =
      store_other k (suc i) (set l (place i) (f i)) (place i) (λ j a b. differ j (omega arith))
      ∙ get_or-set_same l (place i) (f i) d h

  -- what was stored
  pub store_at : (k i : ℕ) (l : List A) (e : ℕ) → i ≤ e → e < i + k → place e < length l → ((j : ℕ) → e < j → place e ≡ place j → ⊥)
      → get_or (repeat_of k i (store place f) l) (place e) d ≡ f e
  unfolding repeat_of
  store_at zero i l e h h' hl differ = absurd (omega arith)
  store_at (suc k) i l e h h' hl differ =
      ⊎_elim
      (λ z.
      subst (λ (j : ℕ). place j < length l → ((m : ℕ) → j < m → place j ≡ place m → ⊥) → get_or (repeat_of k (suc i) (store place f) (set l (place i) (f i))) (place j) d ≡ f j) z
      (store_first k i l) hl differ)
      (λ z. store_at k (suc i) (set l (place i) (f i)) e (omega arith) (omega arith) (simp length-set hl) differ)
      (eq-or-lt_of_le h)

module _ {A : Type 0} (f : ℕ → A) where
  pub terms_length : (n : ℕ) (l : List A) → length (with_terms n f l) ≡ length l
  unfolding with_terms
  terms_length n l = repeat_length (set_term f) (λ j l. length-set l j (f j)) (n - 0) 0 l

module _ {A : Type 0} (f : ℕ → A) (d : A) where
  -- a place below n
  pub terms_at : (n : ℕ) (l : List A) (e : ℕ) → e < n → n ≤ length l → get_or (with_terms n f l) e d ≡ f e
  unfolding with_terms
  terms_at n l e h hl = store_at (λ (j : ℕ). j) f d (n - 0) 0 l e (omega arith) (omega arith) (omega arith) (λ j a b. omega arith)

-- the first numbers of a list as terms
terms_first : (l : List Float) (k i : ℕ) → i + k ≤ length l → take k (drop i l) ≡ terms_of k i (at l)
unfolding terms_of
terms_first l zero i h = refl
terms_first l (suc k) i h = rw (drop_next l i nan (omega (arith, h))) (ap (λ (t : List Float). at l i ∷ t) (ap (λ (j : ℕ). take k (drop j l)) (add-one i) ∙ terms_first l k (suc i) (omega (arith, h))))

pub terms_take : (l : List Float) (n : ℕ) → n ≤ length l → take n l ≡ terms 0 n (at l)
terms_take l n h = let e : n - 0 ≡ n = omega arith in rw e (terms_first l n 0 (omega (arith, h)))

-- the sum of the first n numbers of an array that a loop filled
pub total_stored : (n : ℕ) (f : ℕ → Float) (a l : List Float) (x : Float) → a ≡ with_terms n f l → n ≤ length l → x ≡ sum2 (take n a) → x ≡ sum2 (terms 0 n (at a))
total_stored n f a l x s h e =
    let whole : length a ≡ length l = ap (λ (t : List Float). length t) s ∙ terms_length f n l in
    e ∙ ap (λ (t : List Float). sum2 t) (terms_take a n (omega (arith, whole, h)))
