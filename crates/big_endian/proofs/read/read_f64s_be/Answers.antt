use Rattle.std.proofs.Common.{◌≡◌, ◌<◌, ◌+◌, ◌*◌, ◌-◌, ◌^◌, min, ◌∙◌, sym, subst, arith, rules}
use Rattle.std.proofs.lemmas.List.{same_lists}
use Rattle.big_endian.specs.Bytes.{f64_from}
use Rattle.big_endian.proofs.Laws.Read.{f64s_length, f64s_at, f64_beyond, calls_give}
use Rattle.big_endian.proofs.read.read_f64s_be.Goals as goal

pub returns : goal.returns
returns g c =
    let a = c.args in
    same_lists _ _ (c.from_fn.ensures.items.long ∙ sym (f64s_length a.s.now a.at g.row.N))
    (λ k d h. let below = subst (λ n. k < n) c.from_fn.ensures.items.long h in
    calls_give _ (λ f. (f.0.now ≡ a.s.now) × (f.1.now ≡ a.at)) (λ i. f64_from a.s.now (a.at + 8 * i)) _ c.from_fn.result 0 g.row.N k k d below (omega arith) (search rules)
    (λ i y p q same called. (search rules, search rules ∙ f64_beyond a.s.now (a.at + 8 * i) (min (a.at + min (i * 8) (2 ^ 64 - 1)) (2 ^ 64 - 1)) (search rules) (omega arith)))
    c.from_fn.ensures.items.each ∙ sym (f64s_at a.s.now a.at g.row.N k d below))
