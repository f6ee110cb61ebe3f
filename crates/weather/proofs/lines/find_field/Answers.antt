use Rattle.std.proofs.Common.{◌-◌, rules, tests}
use Rattle.std.proofs.lemmas.Iterator.Consumers.{nth_from_yields_List}
use Rattle.std.proofs.lemmas.Iterator.Splits.{YieldsList-from_slice_split}
use Rattle.weather.specs.Lines.{field_of}
use Rattle.weather.proofs.lines.find_field.Goals as goal

pub returns : goal.returns
unfolding field_of
returns c =
    nth_from_yields_List c.nth.result c.nth.new.self (c.args.place - 1) c.nth.ensures.ran
    (YieldsList-from_slice_split _ _ c.args.line.now c.split.ensures.rest c.split.ensures.done c.split.ensures.closure (λ x r q k. search (rules, tests)))
