use Rattle.std.proofs.Common.{◌∙◌, rules, tests}
use Rattle.std.proofs.lemmas.Iterator.{YieldsList-from_slice}
use Rattle.std.proofs.lemmas.Iterator.Consumers.{YieldsList-from_enumerate}
use Rattle.std.proofs.lemmas.Iterator.Search.{all_from_yields_List}
use Rattle.zone.proofs.Laws.Conditions.{open_test, open_all}
use Rattle.zone.proofs.check.conditions_tests.open_bits_valid.Goals as goal

pub returns : goal.returns
returns c =
    all_from_yields_List (open_test c.args.s.now) _ _ _ c.all.ensures.ran (YieldsList-from_enumerate (YieldsList-from_slice c.args.elements.now cc) cc)
    (λ x b q k. search (rules, tests)) ∙ open_all c.args.s.now c.args.elements.now 0
