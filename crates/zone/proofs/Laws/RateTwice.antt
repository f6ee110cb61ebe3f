-- The bytes of an hour whose fixed rate is written twice, with code 1: what is read of them.
use Rattle.std.proofs.Common.{ℕ, suc, zero, ◌+◌, ◌*◌, ◌-◌, ◌<◌, ◌≤◌, ◌≡◌, refl, sym, ap, subst, ◌∙◌, List, [], ◌∷◌, ◌++◌, append_assoc, arith, take, drop, length, get_or, length-drop, length-append, eqb, get_or-drop, drop-drop, length-take-le}
use lib.ListN.{get_or-append}
use lib.Seq.{take-append-le, drop-append-le, drop-append-add, take-append_seam, get_or-append_seam}
use lib.Ieee.{binary64, of_bits}
use Rattle.zone.specs.Format.Layout.{rate_code, first_rate, second_rate, first_element_hour, open_byte, element_hour_size}
use Rattle.zone.specs.Format.Bytes.{big_endian, float_at, float_size}
use Rattle.zone.specs.Format.Decode.{element_hour_at}
use Rattle.zone.specs.Format.Conditions.{element_hours_at, open_bits_valid}
use Rattle.zone.specs.Format.FixedRate.{is_fixed, rate_bytes, rate_twice}
use Rattle.zone.proofs.Laws.Same.{num_same}

module _ (bs : List ℕ) (long : first_element_hour ≤ length bs) where
  abbrev front : List ℕ
  front = take rate_code bs

  abbrev rate : List ℕ
  rate = rate_bytes bs

  abbrev rest : List ℕ
  rest = drop first_element_hour bs

  front_long : length front ≡ rate_code
  front_long = length-take-le rate_code bs (omega (arith, long))

  rate_long : length rate ≡ float_size
  rate_long = length-take-le float_size (drop first_rate bs) (simp length-drop (omega (arith, long)))

  -- behind the front stand the code, the rate and the rate
  behind : (k : ℕ) → drop (rate_code + k) (rate_twice bs) ≡ drop k (1 ∷ (rate ++ (rate ++ rest)))
  behind k = subst (λ n. drop (n + k) (rate_twice bs) ≡ drop k (1 ∷ (rate ++ (rate ++ rest)))) front_long (drop-append-add front (1 ∷ (rate ++ (rate ++ rest))) k)

  after_rate : (k : ℕ) (l : List ℕ) → drop (float_size + k) (rate ++ l) ≡ drop k l
  after_rate k l = subst (λ n. drop (n + k) (rate ++ l) ≡ drop k l) rate_long (drop-append-add rate l k)

  is_rate : (l : List ℕ) → take float_size (rate ++ l) ≡ rate
  is_rate l = subst (λ n. take n (rate ++ l) ≡ rate) rate_long (take-append_seam rate l)

  pub front_same : take rate_code (rate_twice bs) ≡ take rate_code bs
  front_same = subst (λ n. take n (rate_twice bs) ≡ front) front_long (take-append_seam front (1 ∷ (rate ++ (rate ++ rest))))

  pub code_is : get_or (rate_twice bs) rate_code 0 ≡ 1
  code_is = subst (λ n. get_or (rate_twice bs) n 0 ≡ 1) front_long (get_or-append_seam front 1 (rate ++ (rate ++ rest)) 0)

  pub first_is : float_at (rate_twice bs) first_rate ≡ float_at bs first_rate
  first_is = ap (λ l. of_bits binary64 (big_endian (take float_size l))) (behind 1) ∙ ap (λ l. of_bits binary64 (big_endian l)) (is_rate (rate ++ rest))

  pub second_is : float_at (rate_twice bs) second_rate ≡ float_at bs first_rate
  second_is =
      ap (λ l. of_bits binary64 (big_endian (take float_size l))) (behind 9 ∙ after_rate 0 (rate ++ rest))
      ∙ ap (λ l. of_bits binary64 (big_endian l)) (is_rate rest)

  -- the elements' parts
  pub rest_same : (k : ℕ) → drop (first_element_hour + k) (rate_twice bs) ≡ drop (first_element_hour + k) bs
  rest_same k =
      let at : first_element_hour + k ≡ rate_code + (1 + (float_size + (float_size + k))) = omega arith in
      ap (λ n. drop n (rate_twice bs)) at
      ∙ behind (1 + (float_size + (float_size + k)))
      ∙ sym (drop-drop (float_size + (float_size + k)) 1 (1 ∷ (rate ++ (rate ++ rest))))
      ∙ after_rate (float_size + k) (rate ++ rest)
      ∙ after_rate k rest
      ∙ drop-drop k first_element_hour bs

  pub length_same : length (rate_twice bs) ≡ length bs
  length_same =
      omega (
        arith,
        long,
        front_long,
        rate_long,
        length-append front (1 ∷ (rate ++ (rate ++ rest))),
        length-append rate (rate ++ rest),
        length-append rate rest,
        length-drop first_element_hour bs,
      )

  drop_same : (p : ℕ) → first_element_hour ≤ p → drop p (rate_twice bs) ≡ drop p bs
  drop_same p h =
      let at : first_element_hour + (p - first_element_hour) ≡ p = omega (arith, h) in
      subst (λ n. drop n (rate_twice bs) ≡ drop n bs) at (rest_same (p - first_element_hour))

  byte_behind : (p : ℕ) → first_element_hour ≤ p → get_or (rate_twice bs) p 0 ≡ get_or bs p 0
  byte_behind p h =
      let at : p + 0 ≡ p = omega arith in
      subst (λ n. get_or (rate_twice bs) n 0 ≡ get_or bs n 0) at
      (sym (get_or-drop p (rate_twice bs) 0 0) ∙ ap (λ l. get_or l 0 0) (drop_same p h) ∙ get_or-drop p bs 0 0)

  float_behind : (p : ℕ) → first_element_hour ≤ p → float_at (rate_twice bs) p ≡ float_at bs p
  float_behind p h = ap (λ l. of_bits binary64 (big_endian (take float_size l))) (drop_same p h)

  pub front_float : (i : ℕ) → i < 12 → float_at (rate_twice bs) (float_size * i) ≡ float_at bs (float_size * i)
  front_float i h =
      ap (of_bits binary64)
      (num_same (rate_twice bs) bs rate_code front_same (omega (arith, long, length_same)) (omega (arith, long)) (float_size * i) float_size (omega (arith, h)))

  part_behind : (p : ℕ) → first_element_hour ≤ p → element_hour_at (rate_twice bs) p ≡ element_hour_at bs p
  part_behind p h =
      rw (
        float_behind p h,
        float_behind (p + 8 * 1) (omega (arith, h)),
        float_behind (p + 8 * 2) (omega (arith, h)),
        float_behind (p + 8 * 3) (omega (arith, h)),
        float_behind (p + 8 * 4) (omega (arith, h)),
        byte_behind (p + open_byte) (omega (arith, h)),
      ) refl

  pub parts_behind : (n p : ℕ) → first_element_hour ≤ p → element_hours_at (rate_twice bs) p n ≡ element_hours_at bs p n
  unfolding element_hours_at
  parts_behind zero p h = refl
  parts_behind (suc n) p h = rw (part_behind p h, parts_behind n (p + element_hour_size) (omega (arith, h))) refl

  pub opens_behind : (treatments : List ℕ) (p : ℕ) → first_element_hour ≤ p → open_bits_valid (rate_twice bs) treatments p ≡ open_bits_valid bs treatments p
  unfolding open_bits_valid
  opens_behind [] p h = refl
  opens_behind (t ∷ ts) p h = rw (byte_behind (p + open_byte) (omega (arith, h)), opens_behind ts (p + element_hour_size) (omega (arith, h))) refl

-- what stands behind the conditions stays behind them
module _ (bs rest : List ℕ) (long : first_element_hour ≤ length bs) where
  pub twice_append : rate_twice (bs ++ rest) ≡ rate_twice bs ++ rest
  twice_append =
      (λ t. take-append-le rate_code bs rest (omega (arith, long)) t ++ (1 ∷ (same_rate t ++ (same_rate t ++ drop-append-le first_element_hour bs rest long t))))
      ∙ sym (append_assoc (take rate_code bs) (1 ∷ (rate_bytes bs ++ (rate_bytes bs ++ drop first_element_hour bs))) rest
      ∙ ap (λ l. take rate_code bs ++ (1 ∷ l)) (append_assoc (rate_bytes bs) (rate_bytes bs ++ drop first_element_hour bs) rest
      ∙ ap (λ l. rate_bytes bs ++ l) (append_assoc (rate_bytes bs) (drop first_element_hour bs) rest)))
    where
      same_rate : rate_bytes (bs ++ rest) ≡ rate_bytes bs
      same_rate =
          ap (take float_size) (drop-append-le first_rate bs rest (omega (arith, long)))
          ∙ take-append-le float_size (drop first_rate bs) rest (simp length-drop (omega (arith, long)))

  pub fixed_append : is_fixed (bs ++ rest) ≡ is_fixed bs
  fixed_append = ap (λ b. eqb b 0) (get_or-append bs rest 0 rate_code (omega (arith, long)))
