-- Exchanges and forward substitution of a right side: what stands where afterwards, and that rows exchanged later may as well be exchanged before.
use Rattle.std.proofs.Common.{◌≡◌, refl, sym, ap, ◌∙◌, ⊎_elim, Bool, true, false, cond, List, ℕ, suc, ◌+◌, ◌≤◌, ◌<◌, arith, ltb, length, get_or, set, get_or-set_same, get_or-set_other, Float, lt-ltb}
use lib.Ieee.{nan}
use Rattle.solver.specs.F64.{◌-ᶠ◌, ◌*ᶠ◌}
use Rattle.solver.specs.Repeat.{repeat}
use Rattle.solver.specs.Rows.{entry}
use Rattle.solver.specs.Lu.{swap, apply_interchange, apply_interchanges, forward_step, forward_substitution, subtract_multiple}
use Rattle.solver.proofs.Laws.Counting.{repeat_done}
use Rattle.solver.proofs.Laws.Turns.{repeat_keeps, repeat_same, repeat_last, repeat_relates}
use Rattle.solver.proofs.Laws.Stores.{less_or_not, stores_length, stores_out, stores_in}
use Rattle.solver.proofs.Laws.Interchanges.{swapped, swapped_other, swapped_by, swap_length}

-- one step
module _ (w : ℕ) (m : List Float) (k : ℕ) (b : List Float) where
  forward_length : length (forward_step w m k b) ≡ length b
  unfolding forward_step
  forward_length = stores_length nan (λ i. i) (λ i x. x -ᶠ entry i k m *ᶠ get_or b k nan) (k + 1) w b

  pub forward_out : (i : ℕ) → k < w → (k < i → i < w → ⊥) → get_or (forward_step w m k b) i nan ≡ get_or b i nan
  unfolding forward_step
  forward_out i h o = stores_out nan (λ i. i) (λ i x. x -ᶠ entry i k m *ᶠ get_or b k nan) (k + 1) w b i (omega arith) (λ z u v e. o (omega arith) (omega arith))

  pub forward_in : (i : ℕ) → k < i → i < w → i < length b → get_or (forward_step w m k b) i nan ≡ get_or b i nan -ᶠ entry i k m *ᶠ get_or b k nan
  unfolding forward_step
  forward_in i h g fits = stores_in nan (λ i. i) (λ i x. x -ᶠ entry i k m *ᶠ get_or b k nan) (k + 1) w b i (λ x y n e. n e) (omega arith) g fits

-- a step reads its own column alone, and the last step does nothing
pub forward_same : (w : ℕ) (m m' : List Float) (k : ℕ) (b : List Float) → ((i : ℕ) → i < w → entry i k m ≡ entry i k m') → forward_step w m k b ≡ forward_step w m' k b
unfolding forward_step
forward_same w m m' k b h =
    repeat_same (subtract_multiple m k (get_or b k nan)) (subtract_multiple m' k (get_or b k nan)) (k + 1) w b (λ i t u v. rw (h i v))

last_step : (n : ℕ) (m t : List Float) → forward_step (n + 1) m n t ≡ t
unfolding forward_step
last_step n m t = repeat_done (subtract_multiple m n (get_or t n nan)) (n + 1) (n + 1) t (omega arith)

pub forward_all : (n : ℕ) (m b : List Float) → forward_substitution (n + 1) m b ≡ repeat 0 n (forward_step (n + 1) m) b
unfolding forward_substitution
forward_all n m b = repeat_last (forward_step (n + 1) m) 0 n b (omega arith) ∙ last_step n m (repeat 0 n (forward_step (n + 1) m) b)

-- interchanges
pub interchanges_length : (w : ℕ) (interchanges : List ℕ) (b : List Float) → length (apply_interchanges w interchanges b) ≡ length b
unfolding apply_interchanges
interchanges_length w interchanges b =
    repeat_keeps (λ (i : ℕ) (t : List Float). length t ≡ length b) (apply_interchange interchanges) 0 w b (omega arith)
    (λ i t u v q. either (ltb (get_or interchanges i 0) 25) (swap i (get_or interchanges i 0) t) t (swap_length i (get_or interchanges i 0) t) ∙ q) refl
  where
    either : (c : Bool) (s t : List Float) → length s ≡ length t → length (cond c s t) ≡ length t
    either true s t e = e
    either false s t e = refl

-- the first k are not changed by another row at k
interchanges_before : (k q : ℕ) (interchanges : List ℕ) (b : List Float) → apply_interchanges k (set interchanges k q) b ≡ apply_interchanges k interchanges b
unfolding apply_interchanges
interchanges_before k q interchanges b =
    repeat_same (apply_interchange (set interchanges k q)) (apply_interchange interchanges) 0 k b (λ i t u v. rw (get_or-set_other interchanges k i q 0 (λ e. omega arith)))

-- the last apart
interchanges_last : (k : ℕ) (interchanges : List ℕ) (b : List Float) → apply_interchanges (k + 1) interchanges b ≡ apply_interchange interchanges k (apply_interchanges k interchanges b)
unfolding apply_interchanges
interchanges_last k interchanges b = repeat_last (apply_interchange interchanges) 0 k b (omega arith)

-- the first k + 1: row q at k
pub interchanges_next : (k q : ℕ) (interchanges : List ℕ) (b : List Float) → k < length interchanges → q < 25 →
    apply_interchanges (k + 1) (set interchanges k q) b ≡ swap k q (apply_interchanges k interchanges b)
interchanges_next k q interchanges b h hq = interchanges_last k (set interchanges k q) b ∙ rw (get_or-set_same interchanges k q 0 h, lt-ltb q 25 hq) (ap (swap k q) (interchanges_before k q interchanges b))

-- steps before k, of rows k and q that have changed places
module _ (w k q : ℕ) (m m' : List Float) (hk : k ≤ q) (hq : q < w) (hw : w ≤ 25)
    (moved : (i j : ℕ) → i < 25 → j < k → entry i j m' ≡ entry (swapped k q i) j m) where
  abbrev Moved : ℕ → List Float → List Float → Type 0
  Moved j u v = (length u ≡ 25) × ((length v ≡ 25) × ((i : ℕ) → i < 25 → get_or u i nan ≡ get_or v (swapped k q i) nan))

  step : (j : ℕ) (u v : List Float) → 0 ≤ j → j < k → Moved j u v → Moved (suc j) (forward_step w m' j u) (forward_step w m j v)
  step j u v lo hi r = (forward_length w m' j u ∙ r.0, (forward_length w m j v ∙ r.1.0, at))
    where
      at : (i : ℕ) → i < 25 → get_or (forward_step w m' j u) i nan ≡ get_or (forward_step w m j v) (swapped k q i) nan
      at i hi' =
          ⊎_elim
          (λ (a : j < i).
          ⊎_elim
          (λ (b : i < w).
          let l : j < swapped k q i = swapped_by k q (λ (x : ℕ). j < x) i (omega arith) (omega arith) a in
          let g : swapped k q i < w = swapped_by k q (λ (x : ℕ). x < w) i (omega arith) hq b in
          let s : swapped k q j ≡ j = swapped_other k q j (λ e. omega arith) (λ e. omega arith) in
          forward_in w m' j u i a b (omega (arith, r.0))
          ∙ rw (r.1.1 i hi', moved i j hi' hi, r.1.1 j (omega arith), s) (sym (forward_in w m j v (swapped k q i) l g (omega (arith, r.1.0)))))
          (λ (b : w ≤ i). stays (swapped_other k q i (λ e. omega arith) (λ e. omega arith)) (λ x y. omega arith))
          (less_or_not i w))
          (λ (a : i ≤ j). stays (swapped_other k q i (λ e. omega arith) (λ e. omega arith)) (λ x y. omega arith))
          (less_or_not j i)
        where
          stays : swapped k q i ≡ i → (j < i → i < w → ⊥) → get_or (forward_step w m' j u) i nan ≡ get_or (forward_step w m j v) (swapped k q i) nan
          stays e o =
              forward_out w m' j u i (omega arith) o ∙ r.1.1 i hi'
              ∙ sym (forward_out w m j v (swapped k q i) (omega arith) (λ x y. o (omega arith) (omega arith)))

  pub forward_moved : (u v : List Float) → Moved 0 u v → Moved k (repeat 0 k (forward_step w m') u) (repeat 0 k (forward_step w m) v)
  forward_moved u v r = repeat_relates Moved (forward_step w m') (forward_step w m) 0 k u v (omega arith) step r
