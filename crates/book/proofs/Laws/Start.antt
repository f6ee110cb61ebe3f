-- Bytes in place of a buffer's first, one write behind the other.
use Rattle.std.proofs.Common.{ℕ, ◌+◌, ◌-◌, ◌≡◌, sym, ap, ◌∙◌, List, [], ◌++◌, append_assoc, append-nil, length, take, drop, length-append, length-drop, take_at, drop_at, drop-drop}
use lib.Seq.{take-length, drop-length}
use borrow.Rule.Slice.PartMut.{put_mid}
use Rattle.book.specs.Inner.Start.{with_start}

-- what is lent as `&mut b[p..]`, and the buffer once it is x
abbrev pub part_from : (p : ℕ) (b : List ℕ) → List ℕ
part_from p b = take (length b - p) (drop p b)

abbrev pub with_part : (p : ℕ) (b x : List ℕ) → List ℕ
with_part p b x = put_mid p (length b - p) b x

module _ (p : ℕ) (b : List ℕ) where
  pub part_is : part_from p b ≡ drop p b
  part_is = ap (λ (n : ℕ). take n (drop p b)) (sym (length-drop p b)) ∙ take-length (drop p b)

  pub part_put : (x : List ℕ) → with_part p b x ≡ take p b ++ x
  part_put x =
      let none : drop (length b - p) (drop p b) ≡ [] = ap (λ (n : ℕ). drop n (drop p b)) (sym (length-drop p b)) ∙ drop-length (drop p b) in
      ap (λ (l : List ℕ). take p b ++ (x ++ l)) none ∙ ap (λ (l : List ℕ). take p b ++ l) (append-nil x)

-- bytes behind bytes are written at once: p is where the first end
pub start_behind : (p : ℕ) (xs ys b b₁ x : List ℕ) → p ≡ length xs → b₁ ≡ with_start xs b → x ≡ with_start ys (part_from p b₁) → with_part p b₁ x ≡ with_start (xs ++ ys) b
unfolding with_start
start_behind p xs ys b b₁ x q e₁ e₂ =
    let R : List ℕ = drop (length xs) b in
    let before : take p b₁ ≡ xs = ap (take p) e₁ ∙ take_at xs R p (sym q) in
    let behind : part_from p b₁ ≡ R = part_is p b₁ ∙ ap (drop p) e₁ ∙ drop_at xs R p (sym q) in
    part_put p b₁ x
    ∙ (λ t. before t ++ (e₂ ∙ ap (λ (l : List ℕ). ys ++ drop (length ys) l) behind) t)
    ∙ ap (λ (l : List ℕ). xs ++ (ys ++ l)) (drop-drop (length ys) (length xs) b)
    ∙ sym (append_assoc xs ys (drop (length xs + length ys) b))
    ∙ ap (λ (k : ℕ). xs ++ ys ++ drop k b) (sym (length-append xs ys))

-- what begins a buffer that was written
pub start_taken : (bs b : List ℕ) (n : ℕ) → length bs ≡ n → take n (with_start bs b) ≡ bs
unfolding with_start
start_taken bs b n e = take_at bs (drop (length bs) b) n e

-- what fills a buffer
pub start_whole : (bs b : List ℕ) → length bs ≡ length b → with_start bs b ≡ bs
unfolding with_start
start_whole bs b e = ap (λ (l : List ℕ). bs ++ l) (ap (λ (n : ℕ). drop n b) e ∙ drop-length b) ∙ append-nil bs
