use Rattle.std.proofs.Common.{◌≡◌, ◌∙◌, refl, take, rules, tests}
use Rattle.std.proofs.lemmas.Iterator.{YieldsList-from_slice, YieldsList-from_take}
use Rattle.std.proofs.lemmas.Iterator.Search.{all_from_yields_List}
use Rattle.zone.specs.Check.Ranges.{k_pli_range, h_pli_range, delta_r_range, all_in}
use Rattle.zone.specs.Inner.Check.{arrays_in_range, tail_in_range}
use Rattle.zone.proofs.Laws.Ranges.{ranges, all_in_is}
use Rattle.zone.proofs.check.zone_tests.tail_in_range.Goals as goal

pub returns : goal.returns
unfolding tail_in_range arrays_in_range
returns c =
    let e = c.args.e.now in
    let ks : c.all-k_pli.result ≡ all_in k_pli_range (take c.number_of_nodes.result e.k_pli) =
    all_from_yields_List k_pli_range _ _ _ c.all-k_pli.ensures.ran (YieldsList-from_take _ (YieldsList-from_slice e.k_pli cc) cc)
    (λ x b q k. search (rules, tests, ranges)) ∙ all_in_is _ _ in
    let hs : c.all-h_pli.result ≡ all_in h_pli_range (take c.h_count.result e.h_pli) =
    all_from_yields_List h_pli_range _ _ _ c.all-h_pli.ensures.ran (YieldsList-from_take _ (YieldsList-from_slice e.h_pli cc) cc)
    (λ x b q k. search (rules, tests, ranges)) ∙ all_in_is _ _ in
    let ds : c.all-delta_r.result ≡ all_in delta_r_range (take e.treatments e.delta_r) =
    all_from_yields_List delta_r_range _ _ _ c.all-delta_r.ensures.ran (YieldsList-from_take _ (YieldsList-from_slice e.delta_r cc) cc)
    (λ x b q k. search (rules, tests, ranges)) ∙ all_in_is _ _ in
    rw (ks, hs, ds, c.number_of_nodes.ensures, c.h_count.ensures, c.element_hour_in_range.ensures, c.open_within-open.ensures) refl
