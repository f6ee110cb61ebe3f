-- Laws of digits and the numbers that they write, and of the loop over them.
use Rattle.std.proofs.Common.{ℕ, suc, ◌+◌, ◌-◌, ◌*◌, ◌^◌, ◌≤◌, ◌<◌, ◌≡◌, refl, sym, ap, ◌∙◌, true, List, [], ◌∷◌, ◌++◌, mul_assoc, mul_comm, mul_left_comm, add-mul, mul-le-mul_left, mul-le-mul_right, add-one, arith, length, length-drop, length-append, drop, get_or, drop_of_length-le, leb, pow-add, leb-true}
use native.Mathlib.Nat.{pow-le-pow_right}
use Rattle.std.proofs.lemmas.Bool.{and_parts}
use Rattle.std.proofs.lemmas.List.{drop_more}
use Rattle.weather.specs.Numbers.{digit0, digit9, most_digits}
use Rattle.weather.specs.Decimal.{is_digit, all_digits, number}

pub digit_bounds : (b : ℕ) → is_digit b ≡ true → (digit0 ≤ b) × (b ≤ digit9)
digit_bounds b h = let a = and_parts (leb digit0 b) (leb b digit9) h in (leb-true _ _ a.0, leb-true _ _ a.1)

-- ---- the number that they write

pub number_next : (bs : List ℕ) (i : ℕ) → i < length bs → number (drop i bs) ≡ (get_or bs i 0 - digit0) * 10 ^ (length bs - (i + 1)) + number (drop (i + 1) bs)
unfolding number
number_next bs i h = rw (drop_more bs i 0 h, length-drop (i + 1) bs) refl

-- ---- the loop that appends digits to a number: of the number so far and of the digits left

module _ (ds : List ℕ) (n i : ℕ) where
  -- the next digit, and that all behind it are digits
  pub digit_next : i < length ds → all_digits (drop i ds) ≡ true → (digit0 ≤ get_or ds i 0) × (get_or ds i 0 ≤ digit9) × (all_digits (drop (i + 1) ds) ≡ true)
  digit_next h d =
      let e : all_digits (get_or ds i 0 ∷ drop (i + 1) ds) ≡ true = ap all_digits (sym (drop_more ds i 0 h)) ∙ d in
      let a = and_parts (is_digit (get_or ds i 0)) (all_digits (drop (i + 1) ds)) e in
      let b = digit_bounds (get_or ds i 0) a.0 in
      (b.0, b.1, a.1)

  pub digits_append : i < length ds
      → n * 10 ^ (length ds - i) + number (drop i ds) ≡ (10 * n + (get_or ds i 0 - digit0)) * 10 ^ (length ds - (i + 1)) + number (drop (i + 1) ds)
  digits_append h = ap (λ (x : ℕ). n * 10 ^ (length ds - i) + x) (number_next ds i h) ∙ go (length ds - (i + 1)) (length ds - i) (omega (arith, h))
    where
      d : ℕ
      d = get_or ds i 0 - digit0

      go : (k k' : ℕ) → k' ≡ k + 1 → n * 10 ^ k' + (d * 10 ^ k + number (drop (i + 1) ds)) ≡ (10 * n + d) * 10 ^ k + number (drop (i + 1) ds)
      go k k' e =
          let p : 10 ^ k' ≡ 10 ^ k * 10 = ap (λ (x : ℕ). 10 ^ x) e ∙ pow-add 10 k 1 in
          let q : n * 10 ^ k' ≡ 10 * n * 10 ^ k = ap (λ (x : ℕ). n * x) p ∙ simp (mul_assoc, mul_comm, mul_left_comm) in
          let r : (10 * n + d) * 10 ^ k ≡ 10 * n * 10 ^ k + d * 10 ^ k = add-mul (10 * n) d (10 ^ k) in
          omega (arith, q, r)

  -- a turn's number is at most the whole
  pub digits_room : i < length ds → 10 * n + (get_or ds i 0 - digit0) ≤ n * 10 ^ (length ds - i) + number (drop i ds)
  digits_room h =
      let m = 10 * n + (get_or ds i 0 - digit0) in
      let p : m * 1 ≤ m * 10 ^ (length ds - (i + 1)) = mul-le-mul_left m (pow-le-pow_right {n = 10} (omega arith) {i = 0} (omega arith)) in
      omega (arith, p, digits_append h)

  pub digits_whole : length ds ≤ i → n ≡ n * 10 ^ (length ds - i) + number (drop i ds)
  unfolding number
  digits_whole h = let z : length ds - i ≡ 0 = omega (arith, h) in rw (z, drop_of_length-le ds {i = i} h) (omega arith)

pub number_append : (w f : List ℕ) → number (w ++ f) ≡ number w * 10 ^ length f + number f
unfolding number
number_append [] f = omega arith
number_append (b ∷ w) f =
    let e : 10 ^ length (w ++ f) ≡ 10 ^ length w * 10 ^ length f = ap (λ (x : ℕ). 10 ^ x) (length-append w f) ∙ pow-add 10 (length w) (length f) in
    let m : (b - digit0) * 10 ^ length (w ++ f) ≡ (b - digit0) * 10 ^ length w * 10 ^ length f = ap (λ (x : ℕ). (b - digit0) * x) e ∙ sym (mul_assoc (b - digit0) (10 ^ length w) (10 ^ length f)) in
    let a : ((b - digit0) * 10 ^ length w + number w) * 10 ^ length f ≡ (b - digit0) * 10 ^ length w * 10 ^ length f + number w * 10 ^ length f = add-mul ((b - digit0) * 10 ^ length w) (number w) (10 ^ length f) in
    omega (arith, m, a, number_append w f)

-- so many digits write less than 10 to that power
pub number_less : (bs : List ℕ) → all_digits bs ≡ true → number bs < 10 ^ length bs
unfolding number
number_less [] d = omega arith
number_less (b ∷ bs) d =
    let a = and_parts (is_digit b) (all_digits bs) d in
    let t = digit_bounds b a.0 in
    let top : b - digit0 ≤ 9 = omega (arith, t.0, t.1) in
    let m : (b - digit0) * 10 ^ length bs ≤ 9 * 10 ^ length bs = mul-le-mul_right (10 ^ length bs) top in
    let p : 10 ^ suc (length bs) ≡ 10 * 10 ^ length bs = ap (λ (x : ℕ). 10 ^ x) (sym (add-one (length bs))) ∙ pow-add 10 (length bs) 1 ∙ mul_comm (10 ^ length bs) (10 ^ 1) in
    omega (arith, m, p, number_less bs a.1)

-- 12 places suffice
pub power_few : (k : ℕ) → k ≤ most_digits → 10 ^ k ≤ 10 ^ most_digits
power_few k h = pow-le-pow_right {n = 10} (omega arith) h

pub power_some : (k : ℕ) → 0 < 10 ^ k
power_some k = pow-le-pow_right {n = 10} (omega arith) {i = 0} {j = k} (omega arith)
