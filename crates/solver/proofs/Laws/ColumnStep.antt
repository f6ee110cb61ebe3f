-- One column of the factorisation with the last column apart (specs/Inner/Columns.antt): it is not read, and what happens to it is a step of a forward substitution.
use Rattle.std.proofs.Common.{◌≡◌, refl, sym, ap, ◌∙◌, ⊎_elim, List, ℕ, suc, ◌+◌, ◌≤◌, ◌<◌, add-one, arith, length, get_or, set, length-set, Float}
use lib.Ieee.{nan}
use Rattle.std.proofs.lemmas.Bool.{cases_eq}
use Rattle.solver.specs.F64.{◌*ᶠ◌, ◌/ᶠ◌, one64}
use Rattle.solver.specs.Repeat.{repeat}
use Rattle.solver.specs.Rows.{entry, row, eliminate_row}
use Rattle.solver.specs.declared.lu.Lu.{Lu}
use Rattle.solver.specs.Lu.{interchange_rows, eliminate_column_by, swap, apply_interchanges, forward_step}
use Rattle.solver.specs.Inner.Columns.{factor_column_by}
use Rattle.solver.proofs.Laws.Signed.{add_neg_product}
use Rattle.solver.proofs.Laws.Turns.{repeat_last}
use Rattle.solver.proofs.Laws.Stores.{less_or_not}
use Rattle.solver.proofs.Laws.Interchanges.{swapped, swapped_first, swapped_by, swap_at, swap_length, row_at, exchange_length, exchange_at}
use Rattle.solver.proofs.Laws.Elimination.{eliminated, eliminated_before, eliminated_beyond, eliminated_factor, eliminated_later, rows_length, rows_out, rows_in}
use Rattle.solver.proofs.Laws.Forward.{forward_out, forward_in, forward_moved, interchanges_length, interchanges_next}

-- A matrix `full` and another, `m`, that has every column of it but column n; `last` is its column n.
pub record Apart (n : ℕ) (full m last : List Float) : Type 0 where
  pub full_length : length full ≡ 625
  pub m_length : length m ≡ 625
  pub others : (i j : ℕ) → i < 25 → j < 25 → (j ≡ n → ⊥) → entry i j full ≡ entry i j m
  pub column : (i : ℕ) → i < 25 → entry i n full ≡ get_or last i nan

-- where k columns are factored: what became of the column c
abbrev pub column_after : ℕ → List Float → ℕ → List Float → List ℕ → List Float
column_after n c k m interchanges = repeat 0 k (forward_step (n + 1) m) (apply_interchanges k interchanges c)

pub record Beside (n : ℕ) (c : List Float) (k : ℕ) (full : List Float) (interchanges : List ℕ) (m : List Float) (interchanges' : List ℕ) : Type 0 where
  pub same_interchanges : interchanges ≡ interchanges'
  pub interchanges_fit : length interchanges' ≡ 25
  pub apart : Apart n full m (column_after n c k m interchanges')

unfoldable pub Besides : ℕ → List Float → ℕ → Lu → Lu → Type 0
Besides n c k x y = Beside n c k x.matrix x.interchanges y.matrix y.interchanges

-- an entry of a column other than n does not see whether column n is among those from which column k is eliminated
eliminated_narrow : (n k : ℕ) (p p' : List Float) (r : Float) (j : ℕ) (x y : Float) → k < n → (j ≡ n → ⊥) → get_or p j nan ≡ get_or p' j nan →
    eliminated (n + 1) k p r j x y ≡ eliminated n k p' r j x y
eliminated_narrow n k p p' r j x y h o e =
    ⊎_elim
    (λ (a : j < k). eliminated_before (n + 1) k p r j x y a ∙ sym (eliminated_before n k p' r j x y a))
    (λ (a : k ≤ j).
    ⊎_elim
    (λ (b : j ≡ k). rw b (eliminated_factor (n + 1) k p r x y ∙ sym (eliminated_factor n k p' r x y)))
    (λ (b : j ≡ k → ⊥).
    ⊎_elim
    (λ (c : j < n). eliminated_later (n + 1) k p r j x y (omega arith) (omega arith) ∙ rw e (sym (eliminated_later n k p' r j x y (omega arith) c)))
    (λ (c : n ≤ j). eliminated_beyond (n + 1) k p r j x y (omega arith) (omega arith) ∙ sym (eliminated_beyond n k p' r j x y (omega arith) c))
    (less_or_not j n))
    (cases_eq j k))
    (less_or_not j k)

-- one column, its pivot row q known
module _ (n : ℕ) (c : List Float) (k q : ℕ) (full : List Float) (interchanges : List ℕ) (m : List Float)
    (hn : n ≤ 24) (hk : k < n) (lo : k ≤ q) (hi : q < n + 1) (hc : length c ≡ 25) (fit : length interchanges ≡ 25)
    (b : Apart n full m (column_after n c k m interchanges)) where
  r : Float
  r = one64 /ᶠ entry q k full

  r' : Float
  r' = one64 /ᶠ entry q k m

  E : List Float
  E = interchange_rows k q (row q full) full

  E' : List Float
  E' = interchange_rows k q (row q m) m

  F : List Float
  F = repeat (k + 1) (n + 1) (eliminate_row (n + 1) k (row q full) r) E

  F' : List Float
  F' = repeat (k + 1) (n + 1) (eliminate_row n k (row q m) r') E'

  r_same : r ≡ r'
  unfolding r r'
  r_same = ap (λ (x : Float). one64 /ᶠ x) (b.others q k (omega arith) (omega arith) (λ e. omega arith))

  E-length : length E ≡ 625
  unfolding E
  E-length = exchange_length k q full (omega arith) (omega arith) b.full_length

  E'-length : length E' ≡ 625
  unfolding E'
  E'-length = exchange_length k q m (omega arith) (omega arith) b.m_length

  E-at : (i j : ℕ) → i < 25 → j < 25 → entry i j E ≡ entry (swapped k q i) j full
  unfolding E
  E-at = exchange_at k q full (omega arith) (omega arith) b.full_length

  E'-at : (i j : ℕ) → i < 25 → j < 25 → entry i j E' ≡ entry (swapped k q i) j m
  unfolding E'
  E'-at = exchange_at k q m (omega arith) (omega arith) b.m_length

  swapped_fits : (i : ℕ) → i < 25 → swapped k q i < 25
  swapped_fits i h = swapped_by k q (λ (x : ℕ). x < 25) i (omega arith) (omega arith) h

  E-same : (i j : ℕ) → i < 25 → j < 25 → (j ≡ n → ⊥) → entry i j E ≡ entry i j E'
  E-same i j h g o = E-at i j h g ∙ b.others (swapped k q i) j (swapped_fits i h) g o ∙ sym (E'-at i j h g)

  F-length : length F ≡ 625
  unfolding F
  F-length = rows_length (n + 1) k (row q full) r (n + 1) E (omega arith) (omega arith) (omega arith) (omega arith) E-length

  F'-length : length F' ≡ 625
  unfolding F'
  F'-length = rows_length n k (row q m) r' (n + 1) E' (omega arith) (omega arith) (omega arith) (omega arith) E'-length

  F-out : (i j : ℕ) → j < 25 → (k < i → i < n + 1 → ⊥) → entry i j F ≡ entry i j E
  unfolding F
  F-out = rows_out (n + 1) k (row q full) r (n + 1) E (omega arith) (omega arith) (omega arith) (omega arith) E-length

  F'-out : (i j : ℕ) → j < 25 → (k < i → i < n + 1 → ⊥) → entry i j F' ≡ entry i j E'
  unfolding F'
  F'-out = rows_out n k (row q m) r' (n + 1) E' (omega arith) (omega arith) (omega arith) (omega arith) E'-length

  F-in : (i j : ℕ) → j < 25 → k < i → i < n + 1 → entry i j F ≡ eliminated (n + 1) k (row q full) r j (entry i j E) (entry i k E)
  unfolding F
  F-in = rows_in (n + 1) k (row q full) r (n + 1) E (omega arith) (omega arith) (omega arith) (omega arith) E-length

  F'-in : (i j : ℕ) → j < 25 → k < i → i < n + 1 → entry i j F' ≡ eliminated n k (row q m) r' j (entry i j E') (entry i k E')
  unfolding F'
  F'-in = rows_in n k (row q m) r' (n + 1) E' (omega arith) (omega arith) (omega arith) (omega arith) E'-length

  -- the other columns
  F-others : (i j : ℕ) → i < 25 → j < 25 → (j ≡ n → ⊥) → entry i j F ≡ entry i j F'
  F-others i j h g o =
      ⊎_elim
      (λ (a : k < i).
      ⊎_elim
      (λ (d : i < n + 1).
      let p : get_or (row q full) j nan ≡ get_or (row q m) j nan = row_at q full j g ∙ b.others q j (omega arith) g o ∙ sym (row_at q m j g) in
      F-in i j g a d
      ∙ rw (E-same i j h g o, E-same i k h (omega arith) (λ e. omega arith), r_same)
      (eliminated_narrow n k (row q full) (row q m) r' j (entry i j E') (entry i k E') hk o p ∙ sym (F'-in i j g a d)))
      (λ (d : n + 1 ≤ i). F-out i j g (λ x y. omega arith) ∙ E-same i j h g o ∙ sym (F'-out i j g (λ x y. omega arith)))
      (less_or_not i (n + 1)))
      (λ (a : i ≤ k). F-out i j g (λ x y. omega arith) ∙ E-same i j h g o ∙ sym (F'-out i j g (λ x y. omega arith)))
      (less_or_not k i)

  -- columns before k only changed rows
  F'-before : (i j : ℕ) → i < 25 → j < k → entry i j F' ≡ entry (swapped k q i) j m
  F'-before i j h g =
      ⊎_elim
      (λ (a : k < i).
      ⊎_elim
      (λ (d : i < n + 1). F'-in i j (omega arith) a d ∙ eliminated_before n k (row q m) r' j (entry i j E') (entry i k E') g)
      (λ (d : n + 1 ≤ i). F'-out i j (omega arith) (λ x y. omega arith))
      (less_or_not i (n + 1)))
      (λ (a : i ≤ k). F'-out i j (omega arith) (λ x y. omega arith))
      (less_or_not k i)
      ∙ E'-at i j h (omega arith)

  -- the column as it was, and with its rows exchanged too
  d : List Float
  d = apply_interchanges k interchanges c

  u : List Float
  u = repeat 0 k (forward_step (n + 1) m) d

  u' : List Float
  u' = repeat 0 k (forward_step (n + 1) F') (swap k q d)

  d_length : length d ≡ 25
  unfolding d
  d_length = interchanges_length k interchanges c ∙ hc

  moved : (length u' ≡ 25) × ((length u ≡ 25) × ((i : ℕ) → i < 25 → get_or u' i nan ≡ get_or u (swapped k q i) nan))
  unfolding u u'
  moved =
      forward_moved (n + 1) k q m F' lo hi (omega arith) F'-before (swap k q d) d
      (swap_length k q d ∙ d_length, (d_length, λ i h. swap_at k q d i (omega (arith, d_length)) (omega (arith, d_length))))

  -- column n, before column k is eliminated
  E-column : (i : ℕ) → i < 25 → entry i n E ≡ get_or u' i nan
  unfolding u d
  E-column i h = E-at i n h (omega arith) ∙ b.column (swapped k q i) (swapped_fits i h) ∙ sym (moved.1.1 i h)

  pivot_entry : get_or (row q full) n nan ≡ get_or u' k nan
  unfolding u d
  pivot_entry =
      let e : get_or u' k nan ≡ get_or u q nan = moved.1.1 k (omega arith) ∙ ap (λ (x : ℕ). get_or u x nan) (swapped_first k q) in
      row_at q full n (omega arith) ∙ b.column q (omega arith) ∙ sym e

  F-column : (i : ℕ) → i < 25 → entry i n F ≡ get_or (forward_step (n + 1) F' k u') i nan
  F-column i h =
      ⊎_elim
      (λ (a : k < i).
      ⊎_elim
      (λ (g : i < n + 1).
      let f = entry i k E *ᶠ r in
      let e : f ≡ entry i k F' =
      rw (E-same i k h (omega arith) (λ z. omega arith), r_same)
      (sym (F'-in i k (omega arith) a g ∙ eliminated_factor n k (row q m) r' (entry i k E') (entry i k E'))) in
      F-in i n (omega arith) a g
      ∙ eliminated_later (n + 1) k (row q full) r n (entry i n E) (entry i k E) hk (omega arith)
      ∙ add_neg_product (entry i n E) (get_or (row q full) n nan) f
      ∙ rw (e, E-column i h, pivot_entry) (sym (forward_in (n + 1) F' k u' i a g (omega (arith, moved.0)))))
      (λ (g : n + 1 ≤ i). stays (λ x y. omega arith))
      (less_or_not i (n + 1)))
      (λ (a : i ≤ k). stays (λ x y. omega arith))
      (less_or_not k i)
    where
      stays : (k < i → i < n + 1 → ⊥) → entry i n F ≡ get_or (forward_step (n + 1) F' k u') i nan
      stays o = F-out i n (omega arith) o ∙ E-column i h ∙ sym (forward_out (n + 1) F' k u' i (omega arith) o)

  -- the column after k + 1 columns
  column_next : forward_step (n + 1) F' k u' ≡ column_after n c (suc k) F' (set interchanges k q)
  unfolding u' d
  column_next =
      rw (← add-one k, repeat_last (forward_step (n + 1) F') 0 k (apply_interchanges (k + 1) (set interchanges k q) c) (omega arith), interchanges_next k q interchanges c (omega arith) (omega arith))

  pub by_row : Besides n c (suc k) (eliminate_column_by (n + 1) k q full interchanges) (factor_column_by n k q m interchanges)
  unfolding Besides eliminate_column_by factor_column_by F F' E E' r r'
  by_row =
      record {
        same_interchanges = refl;
        interchanges_fit = length-set interchanges k q ∙ fit;
        apart =
            record {
              full_length = F-length;
              m_length = F'-length;
              others = F-others;
              column = λ i h. F-column i h ∙ ap (λ (l : List Float). get_or l i nan) column_next;
            };
      }
