-- Numbers as the library writes them, the loop that writes floats, its beginning and one turn, and the comparison of bytes.
use Rattle.std.proofs.Common.{nat_eq, ℕ, ◌+◌, ◌*◌, ◌/◌, ◌%◌, ◌<◌, ◌≡◌, refl, sym, ap, ◌∙◌, Bool, true, false, cond, ◌&&◌, List, [], ◌∷◌, ◌++◌, append_assoc, append-nil, arith, length, take, get_or, length-take-le, Float}
use Rattle.std.proofs.lemmas.List.{take_more}
use lib.Pointwise.{pointwise}
use lib.Ieee.{nan}
use Rattle.zone.proofs.Promise.{length_row}
use Rattle.std.specs.Cmp.{nat_eq_equiv}
use Rattle.std.specs.Int.{w32, w64, to_be_bytes}
use Rattle.zone.specs.Format.Bytes.{bytes_of}
use Rattle.zone.specs.Format.Encode.{float_bytes, row_bytes}
use Rattle.book.specs.Model.Bytes.{equal_bytes}
use Rattle.book.specs.Inner.Start.{with_start}
use Rattle.book.proofs.Laws.Start.{part_from, with_part, start_behind}

-- ---- numbers, as std writes them

pub four_bytes : (n : ℕ) → to_be_bytes w32 n ≡ bytes_of 4 n
unfolding bytes_of
four_bytes n =
    let e₃ : n / 16777216 % 256 ≡ n / 256 / 256 / 256 % 256 = omega arith in
    let e₂ : n / 65536 % 256 ≡ n / 256 / 256 % 256 = omega arith in
    let e₁ : n / 256 % 256 ≡ n / 256 % 256 = omega arith in
    λ t. e₃ t ∷ e₂ t ∷ e₁ t ∷ n % 256 ∷ []

pub eight_bytes : (n : ℕ) → to_be_bytes w64 n ≡ bytes_of 8 n
unfolding bytes_of
eight_bytes n =
    let e₇ : n / 72057594037927936 % 256 ≡ n / 256 / 256 / 256 / 256 / 256 / 256 / 256 % 256 = omega arith in
    let e₆ : n / 281474976710656 % 256 ≡ n / 256 / 256 / 256 / 256 / 256 / 256 % 256 = omega arith in
    let e₅ : n / 1099511627776 % 256 ≡ n / 256 / 256 / 256 / 256 / 256 % 256 = omega arith in
    let e₄ : n / 4294967296 % 256 ≡ n / 256 / 256 / 256 / 256 % 256 = omega arith in
    let e₃ : n / 16777216 % 256 ≡ n / 256 / 256 / 256 % 256 = omega arith in
    let e₂ : n / 65536 % 256 ≡ n / 256 / 256 % 256 = omega arith in
    let e₁ : n / 256 % 256 ≡ n / 256 % 256 = omega arith in
    λ t. e₇ t ∷ e₆ t ∷ e₅ t ∷ e₄ t ∷ e₃ t ∷ e₂ t ∷ e₁ t ∷ n % 256 ∷ []

-- ---- floats one behind the other

row_append : (xs ys : List Float) → row_bytes (xs ++ ys) ≡ row_bytes xs ++ row_bytes ys
unfolding row_bytes
row_append [] ys = refl
row_append (x ∷ xs) ys = ap (λ (l : List ℕ). float_bytes x ++ l) (row_append xs ys) ∙ sym (append_assoc (float_bytes x) (row_bytes xs) (row_bytes ys))

row_next : (xs : List Float) (i : ℕ) → i < length xs → row_bytes (take (i + 1) xs) ≡ row_bytes (take i xs) ++ float_bytes (get_or xs i nan)
unfolding row_bytes
row_next xs i h =
    ap row_bytes (take_more xs i nan h)
    ∙ row_append (take i xs) (get_or xs i nan ∷ [])
    ∙ ap (λ (l : List ℕ). row_bytes (take i xs) ++ l) (append-nil (float_bytes (get_or xs i nan)))

-- one float more, behind those before it
pub floats_more : (xs : List Float) (i : ℕ) (b b₁ x : List ℕ) → i < length xs → b₁ ≡ with_start (row_bytes (take i xs)) b
    → x ≡ with_start (float_bytes (get_or xs i nan)) (part_from (8 * i) b₁) → with_part (8 * i) b₁ x ≡ with_start (row_bytes (take (i + 1) xs)) b
floats_more xs i b b₁ x h e₁ e₂ =
    let long : length (row_bytes (take i xs)) ≡ 8 * i = length_row (take i xs) ∙ ap (λ (n : ℕ). 8 * n) (length-take-le i xs (omega arith)) in
    start_behind (8 * i) (row_bytes (take i xs)) (float_bytes (get_or xs i nan)) b b₁ x (sym long) e₁ e₂
    ∙ ap (λ (l : List ℕ). with_start l b) (sym (row_next xs i h))

-- no float yet
pub floats_none : (b : List ℕ) → b ≡ with_start (row_bytes []) b
unfolding row_bytes with_start
floats_none b = refl

-- ---- the comparison of bytes

pub compared : (xs ys : List ℕ) → pointwise nat_eq ys xs ≡ equal_bytes xs ys
compared [] [] = refl
compared [] (y ∷ ys) = refl
compared (x ∷ xs) [] = refl
compared (x ∷ xs) (y ∷ ys) = go (compared xs ys) (nat_eq y x) (nat_eq x y) (nat_eq_equiv.symm y x)
  where
    go : pointwise nat_eq ys xs ≡ equal_bytes xs ys → (b c : Bool) → b ≡ c → b && pointwise nat_eq ys xs ≡ cond c (equal_bytes xs ys) false
    go e true c p = e ∙ ap (λ d. cond d (equal_bytes xs ys) false) p
    go e false c p = ap (λ d. cond d (equal_bytes xs ys) false) p
