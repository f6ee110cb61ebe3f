use Rattle.std.proofs.Common.{rules, tests}
use Rattle.std.proofs.lemmas.Iterator.Splits.{YieldsList-from_slice_split}
use Rattle.weather.specs.Numbers.{line_feed}
use Rattle.weather.proofs.Laws.Split.{first_given}
use Rattle.weather.proofs.lines.first_line.Goals as goal

pub returns : goal.returns
returns c =
    rw c.unwrap_or.ensures
    (first_given line_feed c.args.bytes.now
    (YieldsList-from_slice_split _ _ c.args.bytes.now c.split.ensures.rest c.split.ensures.done c.split.ensures.closure (λ x r q k. search (rules, tests)))
    c.next.result c.next.new.self c.args.bytes c.next.ensures.steps)
