use Rattle.std.proofs.Common.{◌≡◌, ◌↔◌, subst, sym, rules, tests, IsTrue, map, nat_eq}
use Rattle.std.proofs.lemmas.Iterator.{YieldsList-from_slice, YieldsList-from_zip}
use Rattle.std.proofs.lemmas.Iterator.Search.{all_from_yields_List}
use Rattle.big_endian.proofs.Laws.Compared.{bits, same_bits_is}
use Rattle.big_endian.proofs.same.same_floats.Goals as goal

pub returns-then-a-b : goal.returns-then-a-b
returns-then-a-b c =
    let a = c.args in
    subst (λ r. IsTrue r ↔ (map bits a.a.now ≡ map bits a.b.now))
    (sym (all_from_yields_List (λ p. nat_eq (bits p.0) (bits p.1)) c.all.new.self _ _ c.all.ensures.ran
    (YieldsList-from_zip (YieldsList-from_slice a.a.now cc) (YieldsList-from_slice a.b.now cc))
    (λ x b q k. search (rules, tests))))
    (same_bits_is a.a.now a.b.now c.if-a-b.true)
