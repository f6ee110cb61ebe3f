-- Bytes that were read, written again; and values that were written, read back.
use Rattle.std.proofs.Common.{ℕ, suc, zero, ◌+◌, ◌*◌, ◌/◌, ◌%◌, ◌^◌, ◌<◌, ◌≤◌, ◌≡◌, refl, sym, ap, ◌∙◌, Bool, true, false, not, ◌&&◌, List, [], ◌∷◌, ◌++◌, append_assoc, arith, div-add-mod', T, take, drop, length, get_or, length-drop, take_at, drop_at, take-suc, get_or-drop, take-add, drop-drop, drop-cons, Float, to_bits}
use native.Mathlib.Omega.{pow_step}
use lib.Ieee.{nan, inf, fin, binary64, is_nan, le, lt, eq, of_bits, fits}
use lib.Ieee.Bits.{to_bits-of_bits, of_bits-to_bits, to_bits-lt}
use Rattle.zone.specs.Format.Bytes.{Bytes, big_endian_from, big_endian, num_at, float_at, bytes_of, float_size}
use Rattle.zone.specs.Format.Decode.{floats_at}
use Rattle.zone.specs.Format.Encode.{float_bytes, row_bytes}
use Rattle.solver.proofs.Promise.{and_true, AllFit}
use Rattle.zone.proofs.Claims.ForBook.{length_bytes_of}

pub big_endian_snoc : (n : ℕ) (bs : List ℕ) (b : ℕ) → big_endian_from n (bs ++ (b ∷ [])) ≡ big_endian_from n bs * 256 + b
unfolding big_endian_from
big_endian_snoc n [] b = refl
big_endian_snoc n (x ∷ bs) b = big_endian_snoc (n * 256 + x) bs b

grown : (k n b : ℕ) → n < 256 ^ k → b < 256 → n * 256 + b < 256 ^ suc k
grown k n b h hb = rw pow_step (omega arith)

split : (k n x : ℕ) (bs : List ℕ) → x < 256 → bytes_of k n ≡ bs → bytes_of (suc k) (n * 256 + x) ≡ bs ++ (x ∷ [])
unfolding bytes_of
split k n x bs h e =
    let d : (n * 256 + x) / 256 ≡ n = omega arith in
    let m : (n * 256 + x) % 256 ≡ x = omega arith in
    rw (d, m, e)

-- bytes are those of the number that they spell, and it fits them
bytes_back : (k : ℕ) (s : List ℕ) → k ≤ length s → Bytes s → (bytes_of k (big_endian (take k s)) ≡ take k s) × (big_endian (take k s) < 256 ^ k)
unfolding big_endian_from bytes_of
bytes_back zero s h b = (refl, omega arith)
bytes_back (suc k) s h b =
    let r = bytes_back k s (omega arith) b in
    rw (take-suc s k 0 h, big_endian_snoc)
    (split k (big_endian (take k s)) (get_or s k 0) (take k s) (b k) r.0, grown k (big_endian (take k s)) (get_or s k 0) r.1 (b k))

abbrev pub Number : Float → Type 0
Number x = T (not (is_nan x))

-- what lies in a range is a number
pub in_number : (b : Bool) (x high : Float) → (b && le x high) ≡ true → Number x
unfolding is_nan le lt eq
in_number b nan high e = absurd (let f = (and_true b false e).1 in let z : ◌≡◌ {A = ℕ} 0 1 = cc in omega arith)
in_number b (inf s) high e = tt
in_number b (fin s m d) high e = tt

-- k bytes from at on
abbrev pub part : List ℕ → (at k : ℕ) → List ℕ
part s at k = take k (drop at s)

pub part_add : (s : List ℕ) (at k m : ℕ) → part s at (k + m) ≡ part s at k ++ part s (at + k) m
part_add s at k m = take-add k m (drop at s) ∙ ap (λ (l : List ℕ). part s at k ++ take m l) (drop-drop k at s)

pub part_one : (s : List ℕ) (at : ℕ) → at < length s → part s at 1 ≡ get_or s at 0 ∷ []
part_one s at h = rw (drop-cons s at 0 h)

module _ (s : List ℕ) (b : Bytes s) where
  pub number_part : (at k : ℕ) → at + k ≤ length s → bytes_of k (num_at s at k) ≡ part s at k
  number_part at k h =
      let inside : k ≤ length (drop at s) = simp length-drop (omega arith) in
      (bytes_back k (drop at s) inside (λ i. rw get_or-drop (b (at + i)))).0

  pub float_part : (at : ℕ) → at + 8 ≤ length s → Number (float_at s at) → float_bytes (float_at s at) ≡ part s at 8
  float_part at h x =
      let inside : 8 ≤ length (drop at s) = simp length-drop (omega arith) in
      let r = bytes_back 8 (drop at s) inside (λ i. rw get_or-drop (b (at + i))) in
      ap (bytes_of 8) (to_bits-of_bits binary64 (num_at s at 8) r.1 x) ∙ r.0

-- every one is a number
unfoldable pub Numbers : List Float → Type 0
Numbers [] = Unit
Numbers (x ∷ xs) = Number x × Numbers xs

pub row_part : (s : List ℕ) (b : Bytes s) (at k : ℕ) → at + 8 * k ≤ length s → Numbers (floats_at s at k) → row_bytes (floats_at s at k) ≡ part s at (8 * k)
unfolding floats_at row_bytes Numbers
row_part s b at zero h x = refl
row_part s b at (suc k) h x =
    let e : 8 * suc k ≡ 8 + 8 * k = omega arith in
    rw (e, part_add s at 8 (8 * k), float_part s b at (omega arith) x.0, row_part s b (at + 8) k (omega arith) x.1)

-- ---- and back

-- a number that its bytes hold is read back
pub number_back : (k n : ℕ) → n < 256 ^ k → big_endian (bytes_of k n) ≡ n
unfolding big_endian_from bytes_of
number_back zero n h = omega arith
number_back (suc k) n h =
    let small : n / 256 < 256 ^ k = omega (arith, pow_step 256 k) in
    big_endian_snoc 0 (bytes_of k (n / 256)) (n % 256) ∙ ap (λ (m : ℕ). m * 256 + n % 256) (number_back k (n / 256) small) ∙ div-add-mod' n 256

-- what stands at a place of some bytes is read as what was written there, whatever stands before and behind
module _ (bs : List ℕ) where
  -- what stands behind what stands there
  pub past : (a r : List ℕ) (at k q : ℕ) → q ≡ at + k → length a ≡ k → drop at bs ≡ a ++ r → drop q bs ≡ r
  past a r at k q p l e = ap (λ (n : ℕ). drop n bs) p ∙ sym (drop-drop k at bs) ∙ ap (drop k) e ∙ drop_at a r k l

  pub byte_there : (b : ℕ) (r : List ℕ) (at : ℕ) → drop at bs ≡ b ∷ r → get_or bs at 0 ≡ b
  byte_there b r at e =
      let z : at ≡ at + 0 = omega arith in
      ap (λ (n : ℕ). get_or bs n 0) z ∙ sym (get_or-drop at bs 0 0) ∙ ap (λ (l : List ℕ). get_or l 0 0) e

  pub number_there : (k n : ℕ) (r : List ℕ) (at : ℕ) → n < 256 ^ k → drop at bs ≡ bytes_of k n ++ r → num_at bs at k ≡ n
  number_there k n r at h e =
      ap (λ (l : List ℕ). big_endian (take k l)) e ∙ ap big_endian (take_at (bytes_of k n) r k (length_bytes_of k n)) ∙ number_back k n h

  -- a NaN too
  pub float_there : (x : Float) (r : List ℕ) (at : ℕ) → T (fits binary64 x) → drop at bs ≡ float_bytes x ++ r → float_at bs at ≡ x
  float_there x r at h e =
      ap (of_bits binary64) (number_there float_size (to_bits binary64 x) r at (to_bits-lt binary64 x h) e) ∙ of_bits-to_bits binary64 x h

  -- the floats of a row, and each of them
  pub row_there : (xs : List Float) (r : List ℕ) (at n : ℕ) → length xs ≡ n → AllFit xs → drop at bs ≡ row_bytes xs ++ r → floats_at bs at n ≡ xs
  unfolding floats_at row_bytes
  row_there [] r at n l h e = rw (← l) refl
  row_there (x ∷ xs) r at n l h e =
      let f = e ∙ append_assoc (float_bytes x) (row_bytes xs) r in
      let on = past (float_bytes x) (row_bytes xs ++ r) at float_size (at + float_size) refl (length_bytes_of float_size (to_bits binary64 x)) f in
      rw (← l)
      (λ i. float_there x (row_bytes xs ++ r) at (h 0) f i ∷ row_there xs r (at + float_size) (length xs) refl (λ j. h (suc j)) on i)

  pub in_row : (xs : List Float) (r : List ℕ) (at i q : ℕ) → q ≡ at + float_size * i → i < length xs → AllFit xs → drop at bs ≡ row_bytes xs ++ r
      → float_at bs q ≡ get_or xs i nan
  unfolding row_bytes
  in_row [] r at i q p l h e = absurd (omega arith)
  in_row (x ∷ xs) r at zero q p l h e =
      let s : q ≡ at = omega (arith, p) in
      ap (float_at bs) s ∙ float_there x (row_bytes xs ++ r) at (h 0) (e ∙ append_assoc (float_bytes x) (row_bytes xs) r)
  in_row (x ∷ xs) r at (suc i) q p l h e =
      let f = e ∙ append_assoc (float_bytes x) (row_bytes xs) r in
      let on = past (float_bytes x) (row_bytes xs ++ r) at float_size (at + float_size) refl (length_bytes_of float_size (to_bits binary64 x)) f in
      in_row xs r (at + float_size) i q (omega (arith, p)) (omega arith) (λ j. h (suc j)) on

-- a float behind any bytes and before any
pub float_back : (front rest : List ℕ) (at : ℕ) (x : Float) → length front ≡ at → T (fits binary64 x) → float_at (front ++ (float_bytes x ++ rest)) at ≡ x
float_back front rest at x l h = float_there (front ++ (float_bytes x ++ rest)) x rest at h (drop_at front (float_bytes x ++ rest) at l)

-- and floats one after the other
pub row_back : (front : List ℕ) (xs : List Float) (rest : List ℕ) (at : ℕ) → length front ≡ at → AllFit xs
    → floats_at (front ++ (row_bytes xs ++ rest)) at (length xs) ≡ xs
row_back front xs rest at l h = row_there (front ++ (row_bytes xs ++ rest)) xs rest at (length xs) refl h (drop_at front (row_bytes xs ++ rest) at l)
