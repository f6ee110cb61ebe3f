-- The tests of an hour's conditions, one by one.
use Rattle.std.proofs.Common.{ℕ, ◌+◌, ◌*◌, ◌<◌, ◌≤◌, ◌≡◌, refl, ap, ◌∙◌, Bool, true, false, ◌&&◌, List, [], ◌∷◌, map, arith, le-leb, eq-eqb, ne_eqb, length, take, get_or}
use borrow.Author.Tests.{lt-leb}
use Rattle.std.specs.List.{list_all, enumerate_from}
use Rattle.std.proofs.lemmas.List.{take-map}
use Rattle.solver.specs.Result.{refused}
use Rattle.zone.specs.Record.Numbers.{conditions_size, conditions_code}
use Rattle.zone.specs.Check.Ranges.{open_within}
use Rattle.zone.specs.Format.Layout.{conditions_length, open_byte, element_hour_size, first_element_hour}
use Rattle.zone.specs.Format.Conditions.{rate_code_valid, open_bits_valid, conditions_of}
use Rattle.zone.specs.Inner.Format.{tested_at}
use Rattle.zone.specs.declared.record.building_element.Element.{Element}
use Rattle.zone.specs.declared.record.zone_record.Zone.{Zone}
use Rattle.zone.specs.declared.format.conditions.FixedRate.{FixedRate}

abbrev treatments : List Element → List ℕ
treatments = map (λ (e : Element). e.treatments)

-- the test of an element and of its place, as an iterator's `all` makes it
abbrev pub open_test : List ℕ → ℕ × Element → Bool
open_test s (i, e) = open_within e.treatments (get_or s (first_element_hour + element_hour_size * i + open_byte) 0)

pub open_all : (s : List ℕ) (es : List Element) (i : ℕ)
    → list_all (open_test s) (enumerate_from i es) ≡ open_bits_valid s (treatments es) (first_element_hour + element_hour_size * i)
unfolding open_bits_valid
open_all s [] i = refl
open_all s (e ∷ es) i =
    let past : first_element_hour + element_hour_size * (i + 1) ≡ first_element_hour + element_hour_size * i + element_hour_size = omega arith in
    ap (λ (b : Bool). open_test s (i, e) && b) (open_all s es (i + 1) ∙ ap (open_bits_valid s (treatments es)) past)

module _ (z : Zone) where
  -- the treatments of the zone's elements
  abbrev pub treatments_of : List ℕ
  treatments_of = treatments (take z.count z.building_elements)

  treatments_are : take z.count (map (λ (e : Element). e.treatments) z.building_elements) ≡ treatments_of
  treatments_are = take-map (λ (e : Element). e.treatments) z.count z.building_elements

  module _ (fixed : FixedRate) (s : List ℕ) where
    pub too_many : 24 < z.count → conditions_of fixed z s ≡ refused conditions_size 0
    unfolding conditions_of
    too_many h = rw (lt-leb z.count 24 h)

    module _ (h : z.count ≤ 24) where
      pub wrong_size : (length s ≡ conditions_length z.count → ⊥) → conditions_of fixed z s ≡ refused conditions_size 0
      unfolding conditions_of
      wrong_size e = rw (le-leb z.count 24 h, ne_eqb (length s) (conditions_length z.count) e)

      module _ (e : length s ≡ conditions_length z.count) where
        pub wrong_code : (rate_code_valid fixed s && open_bits_valid s treatments_of first_element_hour) ≡ false → conditions_of fixed z s ≡ refused conditions_code 0
        unfolding conditions_of
        wrong_code b = rw (le-leb z.count 24 h, eq-eqb (length s) (conditions_length z.count) e, treatments_are, b)

        pub right_code : (rate_code_valid fixed s && open_bits_valid s treatments_of first_element_hour) ≡ true → conditions_of fixed z s ≡ tested_at s z.count
        unfolding conditions_of tested_at
        right_code b = rw (le-leb z.count 24 h, eq-eqb (length s) (conditions_length z.count) e, treatments_are, b)
