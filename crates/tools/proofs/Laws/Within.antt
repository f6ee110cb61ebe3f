-- Whether a temperature is within a band, and the number of hours within one.
use Rattle.std.proofs.Common.{ℕ, zero, suc, ◌+◌, ◌≤◌, ◌<◌, ◌≡◌, refl, sym, ap, ◌∙◌, Bool, true, false, cond, List, [], ◌∷◌, arith, length, Float}
use Rattle.std.specs.List.{filter}
use Rattle.tools.specs.Questions.{after, within, hours_within}
use Rattle.tools.specs.Claims.{count_of}

-- as the code counts them
pub within_filtered : (lower upper : Float) (ts : List Float) → length (filter (within lower upper) ts) ≡ hours_within lower upper ts
unfolding hours_within
within_filtered lower upper [] = refl
within_filtered lower upper (t ∷ ts) = go (within lower upper t) (within_filtered lower upper ts)
  where
    go : (b : Bool) → length (filter (within lower upper) ts) ≡ hours_within lower upper ts
        → length (cond b (t ∷ filter (within lower upper) ts) (filter (within lower upper) ts)) ≡ cond b 1 0 + hours_within lower upper ts
    go true e = omega (arith, e)
    go false e = omega (arith, e)

-- ---- none of them and all of them

module _ (lower upper : Float) where
  few_counted : (ts : List Float) → hours_within lower upper ts ≤ length ts
  unfolding hours_within
  few_counted [] = omega arith
  few_counted (t ∷ ts) = go (within lower upper t) (few_counted ts)
    where
      go : (b : Bool) → hours_within lower upper ts ≤ length ts → cond b 1 0 + hours_within lower upper ts ≤ suc (length ts)
      go true h = omega (arith, h)
      go false h = omega (arith, h)

  pub none_counted : (ts : List Float) → hours_within lower upper ts ≡ 0 → (i : ℕ) → i < length ts → within lower upper (after ts i) ≡ false
  unfolding hours_within
  none_counted [] e i h = absurd (omega arith)
  none_counted (t ∷ ts) e i h = go (within lower upper t) refl e i h (none_counted ts)
    where
      go : (b : Bool) → within lower upper t ≡ b → cond b 1 0 + hours_within lower upper ts ≡ 0 → (i : ℕ) → i < suc (length ts)
          → (hours_within lower upper ts ≡ 0 → (j : ℕ) → j < length ts → within lower upper (after ts j) ≡ false) → within lower upper (after (t ∷ ts) i) ≡ false
      go true q e i h rest = absurd (omega (arith, e))
      go false q e zero h rest = q
      go false q e (suc i) h rest = rest (omega (arith, e)) i (omega (arith, h))

  pub counted_none : (ts : List Float) → ((i : ℕ) → i < length ts → within lower upper (after ts i) ≡ false) → hours_within lower upper ts ≡ 0
  unfolding hours_within
  counted_none [] f = refl
  counted_none (t ∷ ts) f = let r = counted_none ts (λ i h. f (suc i) (omega (arith, h))) in rw (f 0 (omega arith)) (omega (arith, r))

  pub all_counted : (ts : List Float) → hours_within lower upper ts ≡ length ts → (i : ℕ) → i < length ts → within lower upper (after ts i) ≡ true
  unfolding hours_within
  all_counted [] e i h = absurd (omega arith)
  all_counted (t ∷ ts) e i h = go (within lower upper t) refl e i h (all_counted ts)
    where
      go : (b : Bool) → within lower upper t ≡ b → cond b 1 0 + hours_within lower upper ts ≡ suc (length ts) → (i : ℕ) → i < suc (length ts)
          → (hours_within lower upper ts ≡ length ts → (j : ℕ) → j < length ts → within lower upper (after ts j) ≡ true) → within lower upper (after (t ∷ ts) i) ≡ true
      go false q e i h rest = absurd (omega (arith, e, few_counted ts))
      go true q e zero h rest = q
      go true q e (suc i) h rest = rest (omega (arith, e)) i (omega (arith, h))

  pub counted_all : (ts : List Float) → ((i : ℕ) → i < length ts → within lower upper (after ts i) ≡ true) → hours_within lower upper ts ≡ length ts
  unfolding hours_within
  counted_all [] f = refl
  counted_all (t ∷ ts) f = let r = counted_all ts (λ i h. f (suc i) (omega (arith, h))) in rw (f 0 (omega arith)) (omega (arith, r))

  -- by their numbers
  count_shift : (t : Float) (ts : List Float) (n i : ℕ)
      → count_of n (suc i) (λ k. within lower upper (after (t ∷ ts) k)) ≡ count_of n i (λ k. within lower upper (after ts k))
  unfolding count_of
  count_shift t ts zero i = refl
  count_shift t ts (suc n) i = ap (λ (m : ℕ). cond (within lower upper (after ts i)) 1 0 + m) (count_shift t ts n (suc i))

  pub counted : (ts : List Float) → hours_within lower upper ts ≡ count_of (length ts) 0 (λ i. within lower upper (after ts i))
  unfolding hours_within count_of
  counted [] = refl
  counted (t ∷ ts) = ap (λ (m : ℕ). cond (within lower upper t) 1 0 + m) (counted ts ∙ sym (count_shift t ts (length ts) 0))
