-- Floats compared one by one, and their bits as lists.
use Rattle.std.proofs.Common.{◌≡◌, ◌↔◌, ℕ, List, [], ◌∷◌, Float, refl, ap, ◌∙◌, length, drop, get_or, map, to_bits, IsTrue, nat_eq, eqb-true, eq-eqb, arith}
use Rattle.std.proofs.lemmas.Bool.{and_parts, and_from}
use Rattle.std.specs.List.{list_all, zip}
use Rattle.std.specs.Float.Ieee.{binary64}

abbrev pub bits : Float → ℕ
bits x = to_bits binary64 x

pub same_bits_is : (xs ys : List Float) → length xs ≡ length ys
    → IsTrue (list_all (λ p. nat_eq (bits p.0) (bits p.1)) (zip xs ys)) ↔ (map bits xs ≡ map bits ys)
same_bits_is [] [] long = (λ same. refl, λ same. refl)
same_bits_is [] (y ∷ ys) long = let no : ⊥ = omega (arith, long) in elim no [ ]
same_bits_is (x ∷ xs) [] long = let no : ⊥ = omega (arith, long) in elim no [ ]
same_bits_is (x ∷ xs) (y ∷ ys) long =
    let rest = same_bits_is xs ys (omega (arith, long)) in (
      λ same. let both = and_parts _ _ same in
          ap (λ z. z ∷ map bits xs) (eqb-true _ _ both.0) ∙ ap (λ zs. bits y ∷ zs) (rest.0 both.1),
      λ same. and_from _ _ (eq-eqb _ _ (ap (λ zs. get_or zs 0 0) same)) (rest.1 (ap (λ zs. drop 1 zs) same)),
    )
