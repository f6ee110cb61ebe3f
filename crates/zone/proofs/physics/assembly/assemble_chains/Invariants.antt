use Rattle.std.proofs.Common.{◌≡◌}
use Rattle.solver.specs.Repeat.{repeat}
use Rattle.zone.specs.Inner.Assembly.{at}
use Rattle.zone.specs.Inner.KeptMatrix.{chains_in}
use Rattle.zone.specs.Inner.Kept.{rows_by}
use Rattle.zone.proofs.physics.assembly.assemble_chains.Given as goal

abbrev pub invariant-loop-e : goal.invariant-loop-e
invariant-loop-e l =
    let rows = rows_by l.z.building_elements l.key.opens l.key.delta_t (at l.surfaces.h_ci) (at l.surfaces.share) in
    record {
      count : l.chains.n ≡ l.fn.chains.n;
      two_nodes : l.chains.two_nodes ≡ l.fn.chains.two_nodes;
      left : repeat l.e l.n rows (chains_in l.chains) ≡ repeat 0 l.n rows (chains_in l.fn.chains);
    }
