use Rattle.std.proofs.Common.{rules, length, ap, ◌∙◌, arith, inl}
use Rattle.std.proofs.lemmas.Iterator.Consumers.{YieldsList-from_first, YieldsList-from_filter, count_from_yields_List}
use Rattle.tools.specs.Questions.{within}
use Rattle.tools.specs.Inner.Hours.{hours_left}
use Rattle.tools.proofs.Laws.Hours.{few_hours}
use Rattle.tools.proofs.Laws.Within.{within_filtered}
use Rattle.tools.proofs.within.count_within.Goals as goal

pub count-requires-clause-fits : goal.count-requires-clause-fits
count-requires-clause-fits c =
    inl (let e = ap (λ h. length (hours_left h)) c.filter.ensures.source in let k = few_hours c.args.hours in omega (arith, e, k, c.ranges.hours.0))

pub returns : goal.returns
returns c =
    count_from_yields_List _ _ c.count.ensures.ran
    (YieldsList-from_filter _ (within c.args.lower c.args.upper) (YieldsList-from_first (λ x. x) hours_left (hours_left c.args.hours) (ap hours_left c.filter.ensures.source)) c.filter.ensures.closure (λ x b q k. search rules))
    ∙ within_filtered c.args.lower c.args.upper (hours_left c.args.hours)
