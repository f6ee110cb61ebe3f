-- The order of floats, in the words `lt x y ≡ true` and `lt x y ≡ false`: the library's laws, which say it by `T`.
use Rattle.std.proofs.Common.{◌≡◌, refl, sym, ◌∙◌, Bool, true, false, cond, ◌||◌, Float, is_nan}
use lib.Dec.{not_T}
use lib.Ieee.{lt, eq, le}
use lib.Ieee.Bits.{is_true, is_false}
use Rattle.std.proofs.lemmas.Float.{T_from_true, T_from_false, le_left, le_right, le_of_lt, le_of_not-lt, lt_irrefl, lt_of_le_of_lt}
use Rattle.std.proofs.lemmas.Float as Library
use Rattle.std.specs.Prelude.{Some, None}
use Rattle.std.specs.declared.cmp.Ordering.TheVariants.{Less, Equal, Greater}
use Rattle.std.specs.Ordering.{is_le, is_some_and, partial_le, float_partial_cmp}
use Rattle.solver.proofs.Laws.Signs.{never}

-- the library's comparison, with which it tests a range
pub le_is : (x y : Float) → partial_le float_partial_cmp x y ≡ le x y
unfolding le
le_is x y = go (lt x y) (eq x y) (lt y x)
  where
    go : (less same more : Bool) → is_some_and is_le (cond less (Some Less) (cond same (Some Equal) (cond more (Some Greater) None))) ≡ (less || same)
    go true s m = refl
    go false true m = refl
    go false false true = refl
    go false false false = refl

-- a float that is no NaN
abbrev pub NoNan : Float → Type 0
NoNan x = is_nan x ≡ false

-- no test is both
pub clash : {A : Type 0} (a : Bool) → a ≡ true → a ≡ false → A
clash a h k = never (sym k ∙ h)

-- a comparison that holds has no NaN
pub le_no_nan : (x y : Float) → le x y ≡ true → (NoNan x) × (NoNan y)
le_no_nan x y h = (is_false _ (le_left x y (T_from_true _ h)), is_false _ (le_right x y (T_from_true _ h)))

pub below_no_nan : (x y : Float) → lt x y ≡ true → NoNan x
below_no_nan x y h = is_false _ (le_left x y (le_of_lt x y (T_from_true _ h)))

-- total: of two, the one is below the other, or the other is at most the one
pub not_below : (x y : Float) → NoNan x → NoNan y → lt x y ≡ false → le y x ≡ true
not_below x y p q h = is_true _ (le_of_not-lt x y (T_from_false _ p) (T_from_false _ q) (T_from_false _ h))

pub not_above : (x y : Float) → le x y ≡ true → lt y x ≡ false
not_above x y h = is_false _ (not_T (lt y x) (λ k. lt_irrefl x (lt_of_le_of_lt x y x (T_from_true _ h) k)))

pub lt_irreflexive : (x : Float) → lt x x ≡ false
lt_irreflexive x = is_false _ (not_T (lt x x) (lt_irrefl x))

-- transitive
pub le_lt_trans : (x y z : Float) → le x y ≡ true → lt y z ≡ true → lt x z ≡ true
le_lt_trans x y z h k = is_true _ (lt_of_le_of_lt x y z (T_from_true _ h) (T_from_true _ k))

pub lt_trans : (x y z : Float) → lt x y ≡ true → lt y z ≡ true → lt x z ≡ true
lt_trans x y z h k = is_true _ (Library.lt_trans x y z (T_from_true _ h) (T_from_true _ k))
