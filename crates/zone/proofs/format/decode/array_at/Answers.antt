use Rattle.std.proofs.Common.{◌≡◌, length, take, replicate, rules, refl}
use Rattle.solver.specs.F64.{zero64}
use Rattle.std.proofs.lemmas.List.{drop-replicate}
use Rattle.zone.proofs.format.decode.array_at.Goals as goal

pub returns : goal.returns
returns g c =
    let counted : length (take c.args.count (replicate g.row.N zero64)) ≡ c.args.count = search rules in
    rw (c.floats_to.ensures, counted, drop-replicate c.args.count g.row.N zero64) refl
