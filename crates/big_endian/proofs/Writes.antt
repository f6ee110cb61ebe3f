-- What a write in the middle of a slice makes of it, and one write behind another.
use Rattle.std.proofs.Common.{◌≡◌, ℕ, ◌+◌, ◌-◌, ◌<◌, ◌≤◌, ◌*◌, ◌^◌, min, List, [], ◌∷◌, Float, refl, sym, ap, subst, ◌∙◌, inl, inr, ◌++◌, length, take, get_or, arith, rules}
use Rattle.std.proofs.lemmas.List.{append-nil, length-take-le, same_lists, take_more, places}
use Rattle.std.proofs.lemmas.Grind.{flat_map-append}
use Rattle.std.proofs.lemmas.Bool.{cases_lt}
use borrow.Rule.Slice.PartMut.{put_mid}
use Rattle.big_endian.specs.Bytes.{written, f64_bytes, f64s_bytes}

pub written_middle : (s bytes copied : List ℕ) (at n : ℕ) → at < length s → n ≡ min (length bytes) (length s - at) → copied ≡ take n bytes
    → put_mid at n s copied ≡ written s at bytes
written_middle s bytes copied at n inside counted taken =
    rw taken (same_lists _ _ (search (rules, places)) (λ k d h. grind (arith, places)))

-- what lies past the end is not written
pub written_past : (s bytes : List ℕ) (at : ℕ) → length s ≤ at → written s at bytes ≡ s
written_past s bytes at past = same_lists _ _ (search (rules, places)) (λ k d h. grind (arith, places))

pub written_length : (s bytes : List ℕ) (at : ℕ) → length (written s at bytes) ≡ length s
written_length s bytes at = search (rules, places)

pub written_twice : (s first second : List ℕ) (at : ℕ)
    → written (written s at first) (at + length first) second ≡ written s at (first ++ second)
written_twice s first second at = same_lists _ _ (search (rules, places)) (λ k d h. grind (arith, places))

-- the place behind `first`, or the greatest number where that is beyond: both lie past the end
pub written_behind : (s first second : List ℕ) (at place : ℕ) → length s < 2 ^ 64 → place ≡ min (at + length first) (2 ^ 64 - 1)
    → written (written s at first) place second ≡ written s at (first ++ second)
written_behind s first second at place few behind =
    elim (cases_lt (at + length first) (2 ^ 64)) [
      | inl below ↦ subst (λ (p : ℕ). written (written s at first) p second ≡ written s at (first ++ second)) (omega arith) (written_twice s first second at)
      | inr above ↦ written_past (written s at first) second place (omega (arith, written_length s first at))
          ∙ sym (written_past (written s at first) second (at + length first) (omega (arith, written_length s first at)))
          ∙ written_twice s first second at
    ]

pub floats_length : (xs : List Float) → length (f64s_bytes xs) ≡ 8 * length xs
floats_length [] = refl
floats_length (x ∷ xs) = rw (floats_length xs) (omega arith)

-- one float more, behind those before it
pub float_behind : (s : List ℕ) (xs : List Float) (at place i : ℕ) (d : Float) → length s < 2 ^ 64 → i < length xs → place ≡ min (at + 8 * i) (2 ^ 64 - 1)
    → written (written s at (f64s_bytes (take i xs))) place (f64_bytes (get_or xs i d)) ≡ written s at (f64s_bytes (take (i + 1) xs))
float_behind s xs at place i d few inside behind =
    let before : List ℕ = f64s_bytes (take i xs) in
    let counted : length before ≡ 8 * i = floats_length (take i xs) ∙ ap (λ n. 8 * n) (length-take-le i xs (omega arith)) in
    written_behind s before (f64_bytes (get_or xs i d)) at place few (behind ∙ ap (λ n. min (at + n) (2 ^ 64 - 1)) (sym counted))
    ∙ ap (written s at) (ap (λ ys. before ++ ys) (sym (append-nil (f64_bytes (get_or xs i d))))
    ∙ sym (flat_map-append f64_bytes (take i xs) (get_or xs i d ∷ []))
    ∙ ap f64s_bytes (sym (take_more xs i d inside)))
