use Rattle.std.proofs.Common.{◌≡◌, ◌∙◌, take, rules, tests}
use Rattle.std.proofs.lemmas.Iterator.{YieldsList-from_slice, YieldsList-from_take}
use Rattle.std.proofs.lemmas.Iterator.Search.{all_from_yields_List}
use Rattle.solver.specs.Closeness.{within_state_bound}
use Rattle.zone.specs.Calls.State.{all_within_state_bound}
use Rattle.zone.proofs.Laws.Ranges.{all_in_is}
use Rattle.zone.proofs.check.arguments.state_valid.Goals as goal

pub returns : goal.returns
returns c =
    let s = c.args.s.now in
    let within : c.all-within.result ≡ all_within_state_bound (take s.nodes s.temps) =
    all_from_yields_List within_state_bound _ _ _ c.all-within.ensures.ran (YieldsList-from_take s.nodes (YieldsList-from_slice s.temps cc) cc)
    (λ x b q k. search (rules, tests)) ∙ all_in_is _ _ in
    search (rules, tests, within)
