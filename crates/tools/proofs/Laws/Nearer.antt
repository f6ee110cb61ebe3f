-- The distance by the library's `abs`, and the order of distances: `nearer` is transitive, and of two distances one of which is nearer than a third, so is
-- the other where it is not behind the first.
use Rattle.std.proofs.Common.{◌≡◌, refl, sym, ◌∙◌, Bool, true, false, not, ◌&&◌, ◌||◌, Float}
use lib.Ieee.{nan, inf, fin, binary64, is_nan, lt, le, eq}
use lib.Ieee.Fits.{sub-fits}
use Rattle.std.specs.Float.{float_with_sign}
use Rattle.solver.specs.F64.{◌-ᶠ◌}
use Rattle.solver.proofs.Promise.{without_sign, NoNan, below_no_nan, lt_trans, le_lt_trans, not_below, not_above, lt_irreflexive}
use Rattle.zone.proofs.Promise.{and_true}
use Rattle.book.proofs.Model.Laws.Bytes.{or_false, true_not_false}
use Rattle.tools.specs.Questions.{distance, nearer}

pub distance_is : (value t : Float) → float_with_sign false (t -ᶠ value) ≡ distance value t
distance_is value t = without_sign (t -ᶠ value) (sub-fits binary64 t value)

-- the two ways to be nearer
data IsNearer (a b : Float) : Type 0 where
  below : lt a b ≡ true → IsNearer a b
  number : NoNan a → is_nan b ≡ true → IsNearer a b

pub not_true : (b : Bool) → not b ≡ true → b ≡ false
not_true true e = true_not_false (sym e)
not_true false e = refl

is_nearer : (a b : Float) → nearer a b ≡ true → IsNearer a b
unfolding nearer
is_nearer a b e = go (lt a b) refl e
  where
    go : (x : Bool) → lt a b ≡ x → (x || (not (is_nan a) && is_nan b)) ≡ true → IsNearer a b
    go true q h = below q
    go false q h = let both = and_true (not (is_nan a)) (is_nan b) h in number (not_true (is_nan a) both.0) both.1

nearer_below : (a b : Float) → lt a b ≡ true → nearer a b ≡ true
unfolding nearer
nearer_below a b e = rw e refl

nearer_number : (a b : Float) → NoNan a → is_nan b ≡ true → nearer a b ≡ true
unfolding nearer
nearer_number a b p q = go (lt a b)
  where
    go : (x : Bool) → (x || (not (is_nan a) && is_nan b)) ≡ true
    go true = refl
    go false = rw (p, q) refl

never : {A : Type 0} (b : Float) → NoNan b → is_nan b ≡ true → A
never b p q = true_not_false (sym q ∙ p)

pub nearer_trans : (a b c : Float) → nearer a b ≡ true → nearer b c ≡ true → nearer a c ≡ true
nearer_trans a b c h k = go (is_nearer a b h) (is_nearer b c k)
  where
    go : IsNearer a b → IsNearer b c → nearer a c ≡ true
    go (below p) (below q) = nearer_below a c (lt_trans a b c p q)
    go (below p) (number m n) = nearer_number a c (below_no_nan a b p) n
    go (number m n) (below q) = never b (below_no_nan b c q) n
    go (number m n) (number p q) = never b p n

first_number : (a b : Float) → IsNearer a b → NoNan a
first_number a b (below p) = below_no_nan a b p
first_number a b (number m n) = m

-- not nearer than b, which is then a number too, and not above a
pub nearer_other : (a b c : Float) → nearer a c ≡ true → nearer a b ≡ false → nearer b c ≡ true
unfolding nearer
nearer_other a b c h k = go (is_nan b) refl (is_nearer a c h)
  where
    not_less : (lt a b ≡ false) × ((not (is_nan a) && is_nan b) ≡ false)
    not_less = or_false (lt a b) (not (is_nan a) && is_nan b) k

    go : (x : Bool) → is_nan b ≡ x → IsNearer a c → nearer b c ≡ true
    go true n w = let p = first_number a c w in true_not_false (rw (p, n) at not_less.1)
    go false n (below p) = nearer_below b c (le_lt_trans b a c (not_below a b (below_no_nan a c p) n not_less.0) p)
    go false n (number p q) = nearer_number b c n q

pub nearer_itself : (a : Float) → nearer a a ≡ false
unfolding nearer
nearer_itself a = rw (lt_irreflexive a) (go (is_nan a))
  where
    go : (b : Bool) → (not b && b) ≡ false
    go true = refl
    go false = refl

-- against the comparisons of floats
pub nearer_lt : (a b : Float) → nearer a b ≡ false → lt a b ≡ false
unfolding nearer
nearer_lt a b k = (or_false (lt a b) (not (is_nan a) && is_nan b) k).0

nan_le : (b a : Float) → is_nan b ≡ true → le b a ≡ false
unfolding is_nan le lt eq
nan_le nan a e = refl
nan_le (inf s) a e = true_not_false (sym e)
nan_le (fin s m x) a e = true_not_false (sym e)

pub nearer_le : (a b : Float) → nearer a b ≡ true → le b a ≡ false
nearer_le a b h = go (le b a) refl (is_nearer a b h)
  where
    go : (x : Bool) → le b a ≡ x → IsNearer a b → le b a ≡ false
    go false e w = e
    go true e (below p) = true_not_false (sym p ∙ not_above b a e)
    go true e (number m n) = nan_le b a n
