-- The quotient of two whole numbers rounds their fraction once, and a minus before it is the fraction's.
use Rattle.std.proofs.Common.{ℕ, zero, suc, ◌+◌, ◌*◌, ◌^◌, ◌<◌, ◌≡◌, refl, sym, ap, ◌∙◌, subst, Bool, true, false, cond, true≢false, mul-one, mul_assoc, mul_comm, mul_left_comm, mul-pos, zero-mul, lt_irrefl, arith, ltb, Float, ne_eqb}
use lib.Ieee.{Format, nan, inf, fin, binary64, round, units, odd, div, neg, up, down, prec, emax, low}
use lib.Ieee.Exact.{HasValue}
use lib.Ieee.Scale.{round_same}
use lib.Ieee.Fits.{down_pos}

pub div_of : (x y : Float) (m p : ℕ) → 0 < p → HasValue x false m 1 → HasValue y false p 1 → div binary64 x y ≡ round binary64 false m p
unfolding div
div_of nan y m p P v w = absurd v
div_of (inf s) y m p P v w = absurd v
div_of (fin s a e) nan m p P v w = absurd w
div_of (fin s a e) (inf t) m p P v w = absurd w
div_of (fin true a e) (fin t b d) m p P v w = absurd (true≢false v.0)
div_of (fin false a e) (fin true b d) m p P v w = absurd (true≢false w.0)
div_of (fin false a e) (fin false zero d) m p P v w =
    absurd (lt_irrefl 0 (subst (λ (z : ℕ). 0 < z) (sym w.1 ∙ ap (λ (z : ℕ). z * 1) (zero-mul (up d)) ∙ zero-mul 1) (mul-pos P (down_pos d))))
div_of (fin false a e) (fin false (suc b) d) m p P v w =
    let x : a * up e ≡ m * down e = sym (mul-one (a * up e)) ∙ v.1 in
    let y : suc b * up d ≡ p * down d = sym (mul-one (suc b * up d)) ∙ w.1 in
    let B : 0 < suc b * up d * down e = mul-pos (subst (λ (z : ℕ). 0 < z) (sym y) (mul-pos P (down_pos d))) (down_pos e) in
    let l : a * up e * down d * p ≡ m * down e * down d * p = ap (λ (z : ℕ). z * down d * p) x in
    let r : m * (suc b * up d * down e) ≡ m * (p * down d * down e) = ap (λ (z : ℕ). m * (z * down e)) y in
    let q : m * down e * down d * p ≡ m * (p * down d * down e) = simp (mul_assoc, mul_comm, mul_left_comm) in
    rw (ne_eqb (suc b) 0 (λ (z : suc b ≡ 0). omega arith)) (round_same binary64 false (a * up e * down d) (suc b * up d * down e) m p B P (l ∙ q ∙ sym r))

neg_odd : (d q k l : ℕ) → neg (odd d false q k l) ≡ odd d true q k l
unfolding neg odd
neg_odd d zero k l = refl
neg_odd d (suc q) k l = refl

neg_either : (t : Bool) (x x' y y' : Float) → neg x ≡ x' → neg y ≡ y' → neg (cond t x y) ≡ cond t x' y'
neg_either true x x' y y' e f = e
neg_either false x x' y y' e f = f

neg_units : (f : Format) (q k : ℕ) → neg (units f false q k) ≡ units f true q k
unfolding neg units
neg_units f q k =
    neg_either (ltb (q * 2 ^ k) (2 ^ (low f + suc (emax f)))) (odd (suc (prec f)) false q k (low f)) (odd (suc (prec f)) true q k (low f)) (inf false) (inf true)
    (neg_odd (suc (prec f)) q k (low f)) refl

pub neg_round : (f : Format) (m p : ℕ) → neg (round f false m p) ≡ round f true m p
unfolding round
neg_round f m p = neg_units f _ _
