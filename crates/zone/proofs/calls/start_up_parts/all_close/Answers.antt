use Rattle.zone.specs.Record.BuildingElement.{standard_coefficients}
use Rattle.std.proofs.Common.{◌∙◌, rules, tests}
use Rattle.std.proofs.lemmas.Iterator.{YieldsList-from_slice, YieldsList-from_zip}
use Rattle.std.proofs.lemmas.Iterator.Search.{all_from_yields_List}
use Rattle.solver.specs.Closeness.{isclose}
use Rattle.zone.proofs.Laws.StartUp.{all_close_is}
use Rattle.zone.proofs.calls.start_up_parts.all_close.Goals as goal

pub returns : goal.returns
returns c =
    let a = c.args in
    all_from_yields_List (λ p. isclose p.0 p.1) c.all.new.self _ _ c.all.ensures.ran (YieldsList-from_zip (YieldsList-from_slice a.a.now cc) (YieldsList-from_slice a.b.now cc)) (λ x b q k. search (rules, tests))
    ∙ all_close_is standard_coefficients a.a.now a.b.now
