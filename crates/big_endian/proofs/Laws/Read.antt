-- Floats read one behind the other.
use Rattle.std.proofs.Common.{◌≡◌, ℕ, zero, suc, ◌+◌, ◌-◌, ◌*◌, ◌<◌, ◌≤◌, ◌^◌, min, List, Float, refl, ap, subst, ◌∙◌, inl, inr, length, get_or, arith, rules}
use Rattle.std.proofs.lemmas.List.{same_lists, places}
use Rattle.std.proofs.lemmas.Bool.{cases_lt}
use Rattle.std.specs.Array.{IsFromFnResultFrom}
use denote.Param.Members.{Mut, Called}
use Rattle.std.specs.Prelude.{from_bits}
use Rattle.std.specs.Float.Ieee.{binary64}
use Rattle.std.specs.Int.{w64, from_be_bytes}
use Rattle.big_endian.specs.Bytes.{bytes_from, f64_from, f64s_from}

pub f64s_length : (s : List ℕ) (at n : ℕ) → length (f64s_from s at n) ≡ n
unfolding f64s_from
f64s_length s at zero = refl
f64s_length s at (suc n) = ap suc (f64s_length s (at + 8) n)

pub f64s_at : (s : List ℕ) (at n k : ℕ) (d : Float) → k < n → get_or (f64s_from s at n) k d ≡ f64_from s (at + 8 * k)
unfolding f64s_from
f64s_at s at zero k d below = let no : ⊥ = omega (arith, below) in elim no [ ]
f64s_at s at (suc n) zero d below = ap (λ p. f64_from s p) (omega arith)
f64s_at s at (suc n) (suc k) d below = f64s_at s (at + 8) n k d (omega (arith, below)) ∙ ap (λ p. f64_from s p) (omega arith)

-- past the end all bytes are 0
pub past_end : (s : List ℕ) (at place count : ℕ) → length s ≤ at → length s ≤ place → bytes_from s place count ≡ bytes_from s at count
past_end s at place count past behind = same_lists _ _ (search (rules, places)) (λ k d h. grind (arith, places))

-- a place beyond the greatest number lies past the end, as that number does
pub f64_beyond : (s : List ℕ) (at place : ℕ) → length s < 2 ^ 64 → place ≡ min at (2 ^ 64 - 1) → f64_from s place ≡ f64_from s at
f64_beyond s at place few is =
    elim (cases_lt at (2 ^ 64)) [
      | inl below ↦ ap (λ p. f64_from s p) (omega (arith, is))
      | inr above ↦ ap (λ bytes. from_bits binary64 (from_be_bytes w64 bytes)) (past_end s at place 8 (omega (arith, few, above)) (omega (arith, few, is, above)))
    ]

-- what calls at the numbers from `from` on give, where each keeps P and gives h of its number
pub calls_give : {F B : Type 0} (g : Mut F (ℕ × Unit {0}) B) (P : F → Type 0) (h : ℕ → B) (f : F) (ys : List B) (from n k i : ℕ) (d : B) → k < n → i ≡ from + k → P f
    → ((i : ℕ) (y : B) (p q : F) → P p → Called g p (i, tt) y q → P q × (y ≡ h i))
    → IsFromFnResultFrom g f ys from n → get_or ys i d ≡ h i
calls_give g P h f ys from zero k i d below is first gives calls = let no : ⊥ = omega (arith, below) in elim no [ ]
calls_give g P h f ys from (suc n) zero i d below is first gives (q, y, at, called, rest) =
    subst (λ j. get_or ys j d ≡ h j) (omega (arith, is)) (at.1 d ∙ (gives from y f q first called).1)
calls_give g P h f ys from (suc n) (suc k) i d below is first gives (q, y, at, called, rest) =
    calls_give g P h q ys (from + 1) n k i d (omega (arith, below)) (omega (arith, is)) (gives from y f q first called).0 gives rest
