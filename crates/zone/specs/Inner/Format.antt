-- Words of the contracts of functions that are not exported: a head's structure and an hour's conditions, as the code divides the tests.
use Rattle.std.specs.Prelude.{ℕ, Bool, ◌&&◌, List, leb, eqb}
use Rattle.solver.specs.Result.{Result, ok, bind, require}
use Rattle.zone.specs.Record.Numbers.{head_length, head_version, structure}
use Rattle.zone.specs.Format.Layout.{version_of_head, version_in, basis_in, count_in, first_element}
use Rattle.zone.specs.Format.ElementLayout.{kind_of, treatments_valid}
use Rattle.zone.specs.Check.ZoneTest.{count_valid}
use Rattle.zone.specs.Format.Head.{elements_end}
use Rattle.zone.specs.Format.Conditions.{conditions_test, conditions_at}
use Rattle.zone.specs.declared.format.conditions.Conditions.{Conditions}

-- a kind's number and its treatments
abbrev pub kind_valid : (number treatments : ℕ) → Bool
kind_valid k t = leb k 5 && treatments_valid (kind_of k) t

-- a head that ends at `end`, of whose bytes none is missing
unfoldable pub structure_within : List ℕ → (end : ℕ) → Result ℕ
structure_within bs end =
    bind (require (eqb (version_in bs) version_of_head) head_version) λ _.
    bind (require (leb (basis_in bs) 1 && count_valid (count_in bs)) structure) λ _.
    bind (elements_end bs end (count_in bs) 0 first_element) λ p.
    bind (require (eqb p end) head_length) λ _.
    ok end

-- the conditions, once size, code and open bits are right
unfoldable pub tested_at : List ℕ → (n : ℕ) → Result Conditions
tested_at bs n =
    bind (conditions_test n (conditions_at bs n)) λ _.
    ok (conditions_at bs n)
