-- What the code writes of an entry, against the entry converted.
use Rattle.std.proofs.Common.{ℕ, ◌+◌, ◌≤◌, ◌≡◌, sym, ap, subst, ◌∙◌, true, cond, List, ◌∷◌, ◌++◌, append_assoc, arith, length, take, drop, get_or, set, length-take-le, take-add, drop-drop, get_or-drop, eq-eqb}
use lib.Seq.{drop-append-add, take-append-add, set_split}
use Rattle.zone.specs.Format.FixedRate.{is_fixed, rate_twice}
use Rattle.book.specs.Layout.{front_size}
use Rattle.tools.specs.Inner.Convert.{converted_entry, least_entry}

module _ (e : List ℕ) (long : least_entry ≤ length e) where
  abbrev rate : List ℕ
  rate = take 8 (drop 102 e)

  front_long : length (take 101 e) ≡ 101
  front_long = length-take-le 101 e (omega (arith, long))

  coded : set e 101 1 ≡ take 101 e ++ (1 ∷ drop 102 e)
  coded = set_split e 101 1 (omega (arith, long))

  front : take 110 (set e 101 1) ≡ take 101 e ++ (1 ∷ rate)
  front =
      ap (take 110) coded
      ∙ subst (λ n. take (n + 9) (take 101 e ++ (1 ∷ drop 102 e)) ≡ take 101 e ++ (1 ∷ rate)) front_long (take-append-add (take 101 e) (1 ∷ drop 102 e) 9)

  behind : drop 8 (drop 110 (set e 101 1)) ≡ drop 118 e
  behind =
      drop-drop 8 110 (set e 101 1)
      ∙ ap (drop 118) coded
      ∙ subst (λ n. drop (n + 17) (take 101 e ++ (1 ∷ drop 102 e)) ≡ drop 16 (drop 102 e)) front_long (drop-append-add (take 101 e) (1 ∷ drop 102 e) 17)
      ∙ drop-drop 16 102 e

  twice_is : take front_size e ++ rate_twice (drop front_size e) ≡ take 101 e ++ (1 ∷ (rate ++ (rate ++ drop 118 e)))
  twice_is =
      (λ t. take 5 e ++ (take 96 (drop 5 e) ++ (1 ∷ (take 8 (drop-drop 97 5 e t) ++ (take 8 (drop-drop 97 5 e t) ++ drop-drop 113 5 e t)))))
      ∙ sym (append_assoc (take 5 e) (take 96 (drop 5 e)) (1 ∷ (rate ++ (rate ++ drop 118 e))))
      ∙ ap (λ l. l ++ (1 ∷ (rate ++ (rate ++ drop 118 e)))) (sym (take-add 5 96 e))

  fixed_is : get_or e 101 0 ≡ 0 → is_fixed (drop front_size e) ≡ true
  fixed_is z = eq-eqb (get_or (drop 5 e) 96 0) 0 (get_or-drop 5 e 96 0 ∙ z)

  pub put_fixed : get_or e 101 0 ≡ 0 → take 110 (set e 101 1) ++ (rate ++ drop 8 (drop 110 (set e 101 1))) ≡ converted_entry e
  put_fixed z =
      (λ t. front t ++ (rate ++ behind t))
      ∙ append_assoc (take 101 e) (1 ∷ rate) (rate ++ drop 118 e)
      ∙ sym twice_is
      ∙ ap (λ b. take front_size e ++ cond b (rate_twice (drop front_size e)) (drop front_size e)) (sym (fixed_is z))
