-- Laws of `repeat` and `repeat_down` themselves: the last turn, what every turn keeps, two runs side by side.
use Rattle.std.proofs.Common.{◌≡◌, refl, sym, ap, ◌∙◌, Bool, ◌&&◌, ℕ, zero, suc, ◌+◌, ◌-◌, ◌≤◌, ◌<◌, add-one, arith}
use Rattle.std.proofs.Math.Bool.{and_assoc, and-true}
use Rattle.solver.specs.Repeat.{repeat_of, repeat, repeat_down, all_of, all}
use Rattle.solver.proofs.Laws.Counting.{repeat_done}

module _ {A : Type 0} where
  -- what every turn keeps, from its number on to the next, holds at the end
  keeps : (P : ℕ → A → Type 0) (f : ℕ → A → A) (n i : ℕ) (s : A) →
      ((j : ℕ) (t : A) → i ≤ j → j < i + n → P j t → P (suc j) (f j t)) → P i s → P (i + n) (repeat_of n i f s)
  unfolding repeat_of
  keeps P f zero i s step p = let e : i + 0 ≡ i = omega arith in rw e p
  keeps P f (suc n) i s step p =
      let e : i + suc n ≡ suc i + n = omega arith in
      rw e (keeps P f n (suc i) (f i s) (λ j t h k q. step j t (omega arith) (omega arith) q) (step i s (omega arith) (omega arith) p))

  pub repeat_keeps : (P : ℕ → A → Type 0) (f : ℕ → A → A) (a b : ℕ) (s : A) → a ≤ b →
      ((j : ℕ) (t : A) → a ≤ j → j < b → P j t → P (suc j) (f j t)) → P a s → P b (repeat a b f s)
  repeat_keeps P f a b s h step p =
      let e : a + (b - a) ≡ b = omega arith in
      rw e at (keeps P f (b - a) a s (λ j t u v q. step j t u (omega arith) q) p)

  -- what every turn keeps, whatever its number
  module _ (P : A → Type 0) (f : ℕ → A → A) (turn : (j : ℕ) (s : A) → P s → P (f j s)) where
    stays : (n i : ℕ) (s : A) → P s → P (repeat_of n i f s)
    unfolding repeat_of
    stays zero i s p = p
    stays (suc n) i s p = stays n (suc i) (f i s) (turn i s p)

    pub repeat_stays : (a b : ℕ) (s : A) → P s → P (repeat a b f s)
    repeat_stays a b s p = stays (b - a) a s p

    pub down_stays : (n : ℕ) (s : A) → P s → P (repeat_down n f s)
    unfolding repeat_down
    down_stays zero s p = p
    down_stays (suc n) s p = down_stays n (f n s) (turn n s p)

  -- the last turn apart
  last_of : (f : ℕ → A → A) (n i : ℕ) (s : A) → repeat_of (suc n) i f s ≡ f (i + n) (repeat_of n i f s)
  unfolding repeat_of
  last_of f zero i s = let e : i + 0 ≡ i = omega arith in rw e
  last_of f (suc n) i s = let e : i + suc n ≡ suc i + n = omega arith in rw e (last_of f n (suc i) (f i s))

  pub repeat_last : (f : ℕ → A → A) (a b : ℕ) (s : A) → a ≤ b → repeat a (b + 1) f s ≡ f b (repeat a b f s)
  repeat_last f a b s h =
      let e : b + 1 - a ≡ suc (b - a) = omega arith in
      let g : a + (b - a) ≡ b = omega arith in
      rw e (last_of f (b - a) a s ∙ ap (λ (j : ℕ). f j (repeat a b f s)) g)

  -- two functions that do the same in every turn
  same : (f g : ℕ → A → A) (n i : ℕ) (s : A) →
      ((j : ℕ) (t : A) → i ≤ j → j < i + n → f j t ≡ g j t) → repeat_of n i f s ≡ repeat_of n i g s
  unfolding repeat_of
  same f g zero i s step = refl
  same f g (suc n) i s step =
      ap (repeat_of n (suc i) f) (step i s (omega arith) (omega arith)) ∙ same f g n (suc i) (g i s) (λ j t h k. step j t (omega arith) (omega arith))

  pub repeat_same : (f g : ℕ → A → A) (a b : ℕ) (s : A) →
      ((j : ℕ) (t : A) → a ≤ j → j < b → f j t ≡ g j t) → repeat a b f s ≡ repeat a b g s
  repeat_same f g a b s step = same f g (b - a) a s (λ j t h k. step j t h (omega arith))

  pub down_first : (f : ℕ → A → A) (n : ℕ) (s : A) → repeat_down (n + 1) f s ≡ repeat_down n f (f n s)
  unfolding repeat_down
  down_first f n s = rw (add-one n)

  pub down_same : (f g : ℕ → A → A) (n : ℕ) (s : A) → ((j : ℕ) (t : A) → j < n → f j t ≡ g j t) → repeat_down n f s ≡ repeat_down n g s
  unfolding repeat_down
  down_same f g zero s step = refl
  down_same f g (suc n) s step =
      ap (repeat_down n f) (step n s (omega arith)) ∙ down_same f g n (g n s) (λ j t h. step j t (omega arith))

  -- what each turn commutes with, all turns do
  commute : (f : ℕ → A → A) (g : A → A) (n i : ℕ) (s : A) →
      ((j : ℕ) (t : A) → i ≤ j → j < i + n → f j (g t) ≡ g (f j t)) → repeat_of n i f (g s) ≡ g (repeat_of n i f s)
  unfolding repeat_of
  commute f g zero i s step = refl
  commute f g (suc n) i s step =
      ap (repeat_of n (suc i) f) (step i s (omega arith) (omega arith)) ∙ commute f g n (suc i) (f i s) (λ j t h k. step j t (omega arith) (omega arith))

  pub repeat_commutes : (f : ℕ → A → A) (g : A → A) (a b : ℕ) (s : A) →
      ((j : ℕ) (t : A) → a ≤ j → j < b → f j (g t) ≡ g (f j t)) → repeat a b f (g s) ≡ g (repeat a b f s)
  repeat_commutes f g a b s step = commute f g (b - a) a s (λ j t h k. step j t h (omega arith))

  -- turns of two parts, each of which may wait for the later turns of the other
  split : (f g : ℕ → A → A) (a n : ℕ) (s : A) → ((i j : ℕ) (t : A) → i < j → j < a + n → f j (g i t) ≡ g i (f j t)) →
      repeat a (a + n) (λ i t. g i (f i t)) s ≡ repeat a (a + n) g (repeat a (a + n) f s)
  split f g a zero s step =
      let e : a + 0 ≡ a = omega arith in
      rw (e, repeat_done (λ i t. g i (f i t)) a a s (omega arith), repeat_done f a a s (omega arith), repeat_done g a a s (omega arith))
  split f g a (suc n) s step =
      let e : a + suc n ≡ a + n + 1 = omega arith in
      rw (e, repeat_last (λ i t. g i (f i t)) a (a + n) s (omega arith), repeat_last f a (a + n) s (omega arith), repeat_last g a (a + n) (f (a + n) (repeat a (a + n) f s)) (omega arith))
      (ap (λ (t : A). g (a + n) t)
      (ap (f (a + n)) (split f g a n s (λ i j t h k. step i j t h (omega arith)))
      ∙ sym (repeat_commutes g (f (a + n)) a (a + n) (repeat a (a + n) f s) (λ i t h k. sym (step i (a + n) t k (omega arith))))))

  pub repeat_splits : (f g : ℕ → A → A) (a b : ℕ) (s : A) → a ≤ b → ((i j : ℕ) (t : A) → i < j → j < b → f j (g i t) ≡ g i (f j t)) →
      repeat a b (λ i t. g i (f i t)) s ≡ repeat a b g (repeat a b f s)
  repeat_splits f g a b s h step =
      let e : a + (b - a) ≡ b = omega arith in
      rw e at (split f g a (b - a) s (λ i j t u v. step i j t u (omega arith)))

  -- what f changed, g overwrites
  pub repeat_overwrites : (f g : ℕ → A → A) (a b : ℕ) (s : A) → a ≤ b → ((i j : ℕ) (t : A) → i < j → j < b → f j (g i t) ≡ g i (f j t)) →
      ((i : ℕ) (t : A) → i < b → g i (f i t) ≡ g i t) → repeat a b g (repeat a b f s) ≡ repeat a b g s
  repeat_overwrites f g a b s h step over = sym (repeat_splits f g a b s h step) ∙ repeat_same (λ i t. g i (f i t)) g a b s (λ i t u v. over i t v)

module _ {A B : Type 0} where
  -- a relation that every turn of two runs keeps
  relate : (R : ℕ → A → B → Type 0) (f : ℕ → A → A) (g : ℕ → B → B) (n i : ℕ) (s : A) (t : B) →
      ((j : ℕ) (u : A) (v : B) → i ≤ j → j < i + n → R j u v → R (suc j) (f j u) (g j v)) → R i s t → R (i + n) (repeat_of n i f s) (repeat_of n i g t)
  unfolding repeat_of
  relate R f g zero i s t step p = let e : i + 0 ≡ i = omega arith in rw e p
  relate R f g (suc n) i s t step p =
      let e : i + suc n ≡ suc i + n = omega arith in
      rw e (relate R f g n (suc i) (f i s) (g i t) (λ j u v h k q. step j u v (omega arith) (omega arith) q) (step i s t (omega arith) (omega arith) p))

  pub repeat_relates : (R : ℕ → A → B → Type 0) (f : ℕ → A → A) (g : ℕ → B → B) (a b : ℕ) (s : A) (t : B) → a ≤ b →
      ((j : ℕ) (u : A) (v : B) → a ≤ j → j < b → R j u v → R (suc j) (f j u) (g j v)) → R a s t → R b (repeat a b f s) (repeat a b g t)
  repeat_relates R f g a b s t h step p =
      let e : a + (b - a) ≡ b = omega arith in
      rw e at (relate R f g (b - a) a s t (λ j u v x y q. step j u v x (omega arith) q) p)

-- a test of every number: the last one apart, and two tests that say the same
all_of_last : (test : ℕ → Bool) (n i : ℕ) → all_of (suc n) i test ≡ (all_of n i test && test (i + n))
unfolding all_of
all_of_last test zero i = let e : i + 0 ≡ i = omega arith in rw e (and-true (test i))
all_of_last test (suc n) i =
    let e : i + suc n ≡ suc i + n = omega arith in
    rw e (ap (λ (x : Bool). test i && x) (all_of_last test n (suc i)) ∙ sym (and_assoc (test i) (all_of n (suc i) test) (test (suc i + n))))

pub all_last : (test : ℕ → Bool) (a b : ℕ) → a ≤ b → all a (b + 1) test ≡ (all a b test && test b)
all_last test a b h =
    let e : b + 1 - a ≡ suc (b - a) = omega arith in
    let g : a + (b - a) ≡ b = omega arith in
    rw e (all_of_last test (b - a) a ∙ ap (λ (j : ℕ). all a b test && test j) g)

all_of_same : (f g : ℕ → Bool) (n i : ℕ) → ((j : ℕ) → i ≤ j → j < i + n → f j ≡ g j) → all_of n i f ≡ all_of n i g
unfolding all_of
all_of_same f g zero i same = refl
all_of_same f g (suc n) i same =
    rw (same i (omega arith) (omega arith)) (ap (λ (x : Bool). g i && x) (all_of_same f g n (suc i) (λ j h k. same j (omega arith) (omega arith))))

pub all_same : (f g : ℕ → Bool) (a b : ℕ) → ((j : ℕ) → a ≤ j → j < b → f j ≡ g j) → all a b f ≡ all a b g
all_same f g a b same = all_of_same f g (b - a) a (λ j h k. same j h (omega arith))
