-- The temperatures before the first pass of start-up are within ±1e6: a mean of two numbers of at most 512 in size.
use Rattle.std.proofs.Common.{◌≡◌, refl, sym, ap, subst, ◌∙◌, Bool, true, false, cond, ◌&&◌, ◌||◌, ℕ, zero, suc, ◌+◌, ◌-◌, ◌*◌, ◌/◌, ◌%◌, ◌^◌, ◌≤◌, ◌<◌, le_trans, le_of_eq, le_of_mul-le-mul_right, mul-le-mul_right, mul_assoc, mul_comm, mul-pos, arith, T, ltb, eqb, ℤ, pos, negsuc, Float, ltb-true, lt-ltb, eqb-true}
use mathlib.Core.Bool.{beq}
use Prim.Native.Nat.{compare}
use lib.Ieee.{nan, inf, fin, binary64, prec, low, emax, up, down, unlike, nearest, size, odd, units, round, sum, add, div, lt, le, eq, neg}
use lib.Ieee.Fits.{down_pos}
use lib.Ieee.Order.{round_mono}
use Rattle.solver.specs.F64.{◌+ᶠ◌, ◌/ᶠ◌, decimal}
use Rattle.solver.specs.Closeness.{within_state_bound}
use Rattle.solver.proofs.Promise.{and_true}
use Rattle.zone.specs.Check.Ranges.{temperature_range, heating_setpoint_range}

-- finite, and at most b in size
abbrev AtMost : ℕ → Float → Type 0
AtMost b nan = ⊥
AtMost b (inf s) = ⊥
AtMost b (fin s m e) = m * up e ≤ b * down e

or_le : (a c : ℕ) (u : Bool) → (ltb a c || eqb a c && u) ≡ true → a ≤ c
or_le a c u e = go (ltb a c) refl (eqb a c) refl e
  where
    go : (x : Bool) → ltb a c ≡ x → (y : Bool) → eqb a c ≡ y → (x || y && u) ≡ true → a ≤ c
    go true p y q f = let l = ltb-true a c p in omega arith
    go false p true q f = let l = eqb-true a c q in omega arith
    go false p false q f = let w : ◌≡◌ {A = ℕ} 0 1 = cc in absurd (omega arith)

or_ge : (a c : ℕ) (u : Bool) → (ltb c a || eqb a c && u) ≡ true → c ≤ a
or_ge a c u e = go (ltb c a) refl (eqb a c) refl e
  where
    go : (x : Bool) → ltb c a ≡ x → (y : Bool) → eqb a c ≡ y → (x || y && u) ≡ true → c ≤ a
    go true p y q f = let l = ltb-true c a p in omega arith
    go false p true q f = let l = eqb-true a c q in omega arith
    go false p false q f = let w : ◌≡◌ {A = ℕ} 0 1 = cc in absurd (omega arith)

-- ---- rounding

odd_size : (b d : ℕ) (s : Bool) (q k l : ℕ) → AtMost b (odd d false q k l) → AtMost b (odd d s q k l)
unfolding odd
odd_size b d s zero k l h = h
odd_size b d s (suc q) k l h = h

units_size : (b : ℕ) (s : Bool) (q k : ℕ) → AtMost b (units binary64 false q k) → AtMost b (units binary64 s q k)
unfolding units
units_size b s q k h = go (ltb (q * 2 ^ k) (2 ^ (low binary64 + suc (emax binary64)))) h
  where
    go : (x : Bool) → AtMost b (cond x (odd (suc (prec binary64)) false q k (low binary64)) (inf false)) → AtMost b (cond x (odd (suc (prec binary64)) s q k (low binary64)) (inf s))
    go true g = odd_size b (suc (prec binary64)) s q k (low binary64) g
    go false g = g

-- the binary digits that rounding drops
abbrev dropped : (num den : ℕ) → ℕ
dropped num den = size (num * 2 ^ low binary64 / den) - prec binary64

-- the sign has no part in the size
sign_size : (b : ℕ) (s : Bool) (num den : ℕ) → AtMost b (round binary64 false num den) → AtMost b (round binary64 s num den)
unfolding round
sign_size b s num den h = units_size b s (nearest (num * 2 ^ low binary64 / (den * 2 ^ dropped num den)) (compare (num * 2 ^ low binary64 % (den * 2 ^ dropped num den) * 2) (den * 2 ^ dropped num den))) (dropped num den) h

-- a float that is not below 0 in sign
abbrev Plus : Float → Type 0
Plus nan = ⊥
Plus (inf s) = s ≡ false
Plus (fin s m e) = s ≡ false

odd_plus : (d q k l : ℕ) → Plus (odd d false q k l)
unfolding odd
odd_plus d zero k l = refl
odd_plus d (suc q) k l = refl

units_plus : (q k : ℕ) → Plus (units binary64 false q k)
unfolding units
units_plus q k = go (ltb (q * 2 ^ k) (2 ^ (low binary64 + suc (emax binary64))))
  where
    go : (x : Bool) → Plus (cond x (odd (suc (prec binary64)) false q k (low binary64)) (inf false))
    go true = odd_plus (suc (prec binary64)) q k (low binary64)
    go false = refl

round_plus : (num den : ℕ) → Plus (round binary64 false num den)
unfolding round
round_plus num den = units_plus (nearest (num * 2 ^ low binary64 / (den * 2 ^ dropped num den)) (compare (num * 2 ^ low binary64 % (den * 2 ^ dropped num den) * 2) (den * 2 ^ dropped num den))) (dropped num den)

t_true : (b : Bool) → T b → b ≡ true
t_true true t = refl
t_true false t = absurd t

-- 1,024 is a float
top_is : round binary64 false 1024 1 ≡ fin false 1 (pos 10)
unfolding round
top_is = refl

below_top : (x : Float) → Plus x → le x (fin false 1 (pos 10)) ≡ true → AtMost 1024 x
unfolding le lt eq
below_top nan p h = p
below_top (inf s) p h = let w : ◌≡◌ {A = Bool} false true = rw p at h in let z : ◌≡◌ {A = ℕ} 0 1 = cc in absurd (omega arith)
below_top (fin s m e) p h = let l = or_le (m * up e * 1) (1 * 1024 * down e) _ (rw p at h) in omega (arith, l)

round_size : (s : Bool) (num den : ℕ) → 0 < den → num ≤ 1024 * den → AtMost 1024 (round binary64 s num den)
round_size s num den p h =
    sign_size 1024 s num den
    (below_top (round binary64 false num den) (round_plus num den)
    (subst (λ (y : Float). le (round binary64 false num den) y ≡ true) top_is
    (t_true _ (round_mono binary64 num den 1024 1 p (omega arith) (omega arith)))))

-- ---- a sum, and a half

sum_size : (s : Bool) (a : ℕ) (t : Bool) (b c : ℕ) → 0 < c → a + b ≤ 1024 * c → AtMost 1024 (sum binary64 s a t b c)
unfolding sum
sum_size s a t b c p h = go (beq s t) (ltb a b)
  where
    go : (x y : Bool) → AtMost 1024 (cond x (round binary64 s (a + b) c) (cond y (round binary64 t (b - a) c) (round binary64 (s && ltb b a) (a - b) c)))
    go true y = round_size s (a + b) c p h
    go false true = round_size t (b - a) c p (omega arith)
    go false false = round_size (s && ltb b a) (a - b) c p (omega arith)

-- a * y at most 512 * x * y
scaled : (a x y : ℕ) → a ≤ 512 * x → a * y ≤ 512 * (x * y)
scaled a x y h = le_trans (mul-le-mul_right y h) (le_of_eq (mul_assoc 512 x y))

add_size : (x y : Float) → AtMost 512 x → AtMost 512 y → AtMost 1024 (x +ᶠ y)
unfolding add
add_size nan y p q = absurd p
add_size (inf s) y p q = absurd p
add_size (fin s m e) nan p q = absurd q
add_size (fin s m e) (inf t) p q = absurd q
add_size (fin s m e) (fin t n d) p q =
    let one = scaled (m * up e) (down e) (down d) p in
    let two = scaled (n * up d) (down d) (down e) q in
    let same : down d * down e ≡ down e * down d = mul_comm (down d) (down e) in
    let two' : n * up d * down e ≤ 512 * (down e * down d) = subst (λ (k : ℕ). n * up d * down e ≤ 512 * k) same two in
    sum_size s (m * up e * down d) t (n * up d * down e) (down e * down d) (mul-pos (down_pos e) (down_pos d)) (omega (arith, one, two'))

half_size : (x : Float) → AtMost 1024 x → AtMost 1024 (x /ᶠ fin false 1 (pos 1))
unfolding div
half_size nan p = absurd p
half_size (inf s) p = absurd p
half_size (fin s m e) p = let l = down_pos e in round_size (unlike s false) (m * up e * 1) (1 * 2 * down e) (omega arith) (omega arith)

-- ---- ranges

in_state : (x : Float) → AtMost 1024 x → within_state_bound x ≡ true
unfolding within_state_bound decimal round le lt eq neg
in_state nan p = absurd p
in_state (inf s) p = absurd p
in_state (fin false m e) p =
    let l = down_pos e in
    let low_is = lt-ltb 0 (15625 * 64 * down e + m * up e * 1) (omega arith) in
    let high_is = lt-ltb (m * up e * 1) (15625 * 64 * down e) (omega arith) in
    rw (low_is, high_is) refl
in_state (fin true m e) p =
    let l = down_pos e in
    let low_is = lt-ltb (m * up e * 1) (15625 * 64 * down e) (omega arith) in
    let high_is = lt-ltb 0 (m * up e * 1 + 15625 * 64 * down e) (omega arith) in
    rw (low_is, high_is) refl

-- a * y at most b * x * y is a at most b * x
unscaled : (a b x y : ℕ) → 0 < y → a * y ≤ b * (x * y) → a ≤ b * x
unscaled a b x y p h = le_of_mul-le-mul_right (le_trans h (le_of_eq (sym (mul_assoc b x y)))) p

-- a number a of which a * w is at most v * y, where v is at most 512 * w
under : (a v w y : ℕ) → 0 < w → v ≤ 512 * w → a * w ≤ v * y → a ≤ 512 * y
under a v w y p h k =
    unscaled a 512 y w p (le_trans k (le_trans (mul-le-mul_right y h) (le_of_eq (mul_assoc 512 w y ∙ ap (λ (m : ℕ). 512 * m) (mul_comm w y)))))

range_size : (n : ℕ) (d : ℤ) (n' : ℕ) (d' : ℤ) → n * up d ≤ 512 * down d → n' * up d' ≤ 512 * down d'
    → (x : Float) → le (fin true n d) x ≡ true → le x (fin false n' d') ≡ true → AtMost 512 x
unfolding le lt eq
range_size n d n' d' l h nan p q = let z : ◌≡◌ {A = ℕ} 0 1 = cc in absurd (omega arith)
range_size n d n' d' l h (inf true) p q = let z : ◌≡◌ {A = ℕ} 0 1 = cc in absurd (omega arith)
range_size n d n' d' l h (inf false) p q = let z : ◌≡◌ {A = ℕ} 0 1 = cc in absurd (omega arith)
range_size n d n' d' l h (fin false m e) p q = under (m * up e) (n' * up d') (down d') (down e) (down_pos d') h (or_le (m * up e * down d') (n' * up d' * down e) _ q)
range_size n d n' d' l h (fin true m e) p q = under (m * up e) (n * up d) (down d) (down e) (down_pos d) l (or_ge (n * up d * down e) (m * up e * down d) _ p)

-- a mean of a temperature and a first set temperature
pub mean_within : (x y : Float) → temperature_range x ≡ true → heating_setpoint_range y ≡ true → within_state_bound ((x +ᶠ y) /ᶠ decimal 2 0) ≡ true
unfolding temperature_range heating_setpoint_range decimal round neg
mean_within x y p q =
    let a = and_true (le (neg (decimal 100 0)) x) (le x (decimal 100 0)) p in
    let b = and_true (le (neg (decimal 27315 2)) y) (le y (decimal 100 0)) q in
    in_state ((x +ᶠ y) /ᶠ fin false 1 (pos 1))
    (half_size (x +ᶠ y)
    (add_size x y
    (range_size 25 (pos 2) 25 (pos 2) (omega arith) (omega arith) x a.0 a.1)
    (range_size 2402652809016115 (negsuc 42) 25 (pos 2) (omega arith) (omega arith) y b.0 b.1)))
