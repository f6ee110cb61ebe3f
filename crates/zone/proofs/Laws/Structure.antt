-- The structure of a head, step by step, and what an accepted one tells.
use Rattle.std.proofs.Common.{ℕ, suc, ◌+◌, ◌-◌, ◌<◌, ◌≤◌, ◌≡◌, refl, ap, ◌∙◌, Bool, true, false, ◌&&◌, List, arith, le-leb, leb-true, eq-eqb, ne_eqb, eqb-true, leb, eqb, length}
use borrow.Author.Tests.{lt-leb}
use Rattle.solver.specs.Result.{ok, refused, require, require_at}
use Rattle.solver.proofs.Promise.{bind_ok, require_ok, ok_inj, and_true}
use Rattle.zone.specs.Record.Numbers.{head_short, head_length, head_version, structure}
use Rattle.zone.specs.Format.ElementLayout.{kind_valid_at, size_at}
use Rattle.zone.specs.Format.Layout.{length_field, shortest_length, longest_length, length_size, version_in, basis_in, count_in, first_element, element_floats}
use Rattle.zone.specs.Check.ZoneTest.{count_valid}
use Rattle.zone.specs.Format.Head.{elements_end, structure_of}
use Rattle.zone.specs.Inner.Format.{structure_within}
use Rattle.zone.proofs.Laws.Lists.{one_left}

abbrev pub length_valid : ℕ → Bool
length_valid n = leb shortest_length n && leb n longest_length

module _ (s : List ℕ) (end n i p : ℕ) (h : i < n) where
  pub end_short : end < p + element_floats → elements_end s end (n - i) i p ≡ refused head_length 0
  unfolding elements_end
  end_short t = rw (one_left n i h, lt-leb (p + element_floats) end t)

  pub end_kind : p + element_floats ≤ end → kind_valid_at s p ≡ false → elements_end s end (n - i) i p ≡ refused structure (i + 1)
  unfolding elements_end
  end_kind a b = rw (one_left n i h, le-leb (p + element_floats) end a, b)

  pub end_rest : p + element_floats ≤ end → kind_valid_at s p ≡ true → end < p + size_at s p → elements_end s end (n - i) i p ≡ refused head_length 0
  unfolding elements_end
  end_rest a b t = rw (one_left n i h, le-leb (p + element_floats) end a, b, lt-leb (p + size_at s p) end t)

  pub end_next : p + element_floats ≤ end → kind_valid_at s p ≡ true → p + size_at s p ≤ end → elements_end s end (n - i) i p ≡ elements_end s end (n - (i + 1)) (i + 1) (p + size_at s p)
  unfolding elements_end
  end_next a b d = rw (one_left n i h, le-leb (p + element_floats) end a, b, le-leb (p + size_at s p) end d)

pub end_none : (s : List ℕ) (end n i p : ℕ) → n ≤ i → elements_end s end (n - i) i p ≡ ok p
unfolding elements_end
end_none s end n i p h = let none : n - i ≡ 0 = omega arith in rw none

-- an element of accepted ones is whole
pub record Whole (s : List ℕ) (end left i p q : ℕ) : Type 0 where
  pub front : p + element_floats ≤ end
  pub kind_valid_lem : kind_valid_at s p ≡ true
  pub rest : p + size_at s p ≤ end
  pub on : elements_end s end left (i + 1) (p + size_at s p) ≡ ok q

pub whole_of : (s : List ℕ) (end left i p q : ℕ) → elements_end s end (suc left) i p ≡ ok q → Whole s end left i p q
unfolding elements_end
whole_of s end left i p q e =
    let a = bind_ok (require (leb (p + element_floats) end) head_length) _ q e in
    let b = bind_ok (require_at (kind_valid_at s p) structure (i + 1)) _ q a.2 in
    let d = bind_ok (require (leb (p + size_at s p) end) head_length) _ q b.2 in
    record {
      front = leb-true (p + element_floats) end (require_ok (leb (p + element_floats) end) head_length 0 a.0 a.1);
      kind_valid_lem = require_ok (kind_valid_at s p) structure (i + 1) b.0 b.1;
      rest = leb-true (p + size_at s p) end (require_ok (leb (p + size_at s p) end) head_length 0 d.0 d.1);
      on = d.2;
    }

pub end_whole : (s : List ℕ) (end n i p q : ℕ) → i < n → elements_end s end (n - i) i p ≡ ok q → Whole s end (n - (i + 1)) i p q
end_whole s end n i p q h e = whole_of s end (n - (i + 1)) i p q (rw (one_left n i h) at e)

module _ (s : List ℕ) (end : ℕ) where
  pub within_version : (version_in s ≡ 1 → ⊥) → structure_within s end ≡ refused head_version 0
  unfolding structure_within
  within_version h = rw (ne_eqb (version_in s) 1 h)

  module _ (v : version_in s ≡ 1) where
    pub within_front : (leb (basis_in s) 1 && count_valid (count_in s)) ≡ false → structure_within s end ≡ refused structure 0
    unfolding structure_within
    within_front f = rw (eq-eqb (version_in s) 1 v, f)

    module _ (f : (leb (basis_in s) 1 && count_valid (count_in s)) ≡ true) where
      pub within_elements : (a b : ℕ) → elements_end s end (count_in s) 0 first_element ≡ refused a b → structure_within s end ≡ refused a b
      unfolding structure_within
      within_elements a b e = rw (eq-eqb (version_in s) 1 v, f, e)

      pub within_over : (p : ℕ) → elements_end s end (count_in s) 0 first_element ≡ ok p → (p ≡ end → ⊥) → structure_within s end ≡ refused head_length 0
      unfolding structure_within
      within_over p e h = rw (eq-eqb (version_in s) 1 v, f, e, ne_eqb p end h)

      pub within_end : (p : ℕ) → elements_end s end (count_in s) 0 first_element ≡ ok p → p ≡ end → structure_within s end ≡ ok end
      unfolding structure_within
      within_end p e h = rw (eq-eqb (version_in s) 1 v, f, e, eq-eqb p end h)

module _ (s : List ℕ) where
  pub too_short : length s < 4 → structure_of s ≡ refused head_short 0
  unfolding structure_of
  too_short h = rw (lt-leb 4 (length s) h)

  module _ (h : 4 ≤ length s) where
    pub bad_length : length_valid (length_field s) ≡ false → structure_of s ≡ refused head_length 0
    unfolding structure_of
    bad_length b = rw (le-leb 4 (length s) h, b)

    module _ (b : length_valid (length_field s) ≡ true) where
      pub cut_short : length s < 4 + length_field s → structure_of s ≡ refused head_short 0
      unfolding structure_of
      cut_short d = rw (le-leb 4 (length s) h, b, lt-leb (4 + length_field s) (length s) d)

      pub all_there : 4 + length_field s ≤ length s → structure_of s ≡ structure_within s (4 + length_field s)
      unfolding structure_of structure_within
      all_there d = rw (le-leb 4 (length s) h, b, le-leb (4 + length_field s) (length s) d)

pub length_good : (n : ℕ) → length_valid n ≡ true → (shortest_length ≤ n) × (n ≤ longest_length)
length_good n e = let o = and_true (leb shortest_length n) (leb n longest_length) e in (leb-true shortest_length n o.0, leb-true n longest_length o.1)

-- an accepted structure
pub record Structured (s : List ℕ) (end : ℕ) : Type 0 where
  pub ends : end ≡ 4 + length_field s
  pub low : length_size + shortest_length ≤ end
  pub high : end ≤ length_size + longest_length
  pub there : end ≤ length s
  pub version : version_in s ≡ 1
  pub basis : basis_in s ≤ 1
  pub some : 1 ≤ count_in s
  pub few : count_in s ≤ 24
  pub elements : elements_end s end (count_in s) 0 first_element ≡ ok end

within_ok : (s : List ℕ) (end n : ℕ) → length_size + shortest_length ≤ end → end ≤ length_size + longest_length → end ≤ length s → end ≡ 4 + length_field s → structure_within s end ≡ ok n → Structured s n
unfolding structure_within
within_ok s end n lo hi th l e =
    let a = bind_ok (require (eqb (version_in s) 1) head_version) _ n e in
    let b = bind_ok (require (leb (basis_in s) 1 && count_valid (count_in s)) structure) _ n a.2 in
    let d = bind_ok (elements_end s end (count_in s) 0 first_element) _ n b.2 in
    let f = bind_ok (require (eqb d.0 end) head_length) _ n d.2 in
    let q : end ≡ n = ok_inj f.2 in
    let p : d.0 ≡ end = eqb-true d.0 end (require_ok (eqb d.0 end) head_length 0 f.0 f.1) in
    let g = require_ok (leb (basis_in s) 1 && count_valid (count_in s)) structure 0 b.0 b.1 in
    let g1 = and_true (leb (basis_in s) 1) (count_valid (count_in s)) g in
    let g2 = and_true (leb 1 (count_in s)) (leb (count_in s) 24) g1.1 in
    rw (← q)
    (record {
      ends = l;
      low = lo;
      high = hi;
      there = th;
      version = eqb-true (version_in s) 1 (require_ok (eqb (version_in s) 1) head_version 0 a.0 a.1);
      basis = leb-true (basis_in s) 1 g1.0;
      some = leb-true 1 (count_in s) g2.0;
      few = leb-true (count_in s) 24 g2.1;
      elements = d.1 ∙ ap ok p;
    })

pub structured : (s : List ℕ) (end : ℕ) → structure_of s ≡ ok end → Structured s end
unfolding structure_of structure_within
structured s end e =
    let a = bind_ok (require (leb 4 (length s)) head_short) _ end e in
    let b = bind_ok (require (length_valid (length_field s)) head_length) _ end a.2 in
    let d = bind_ok (require (leb (4 + length_field s) (length s)) head_short) _ end b.2 in
    let g = length_good (length_field s) (require_ok (length_valid (length_field s)) head_length 0 b.0 b.1) in
    within_ok s (4 + length_field s) end (omega (arith, g.0)) (omega (arith, g.1)) (leb-true (4 + length_field s) (length s) (require_ok (leb (4 + length_field s) (length s)) head_short 0 d.0 d.1)) refl d.2
