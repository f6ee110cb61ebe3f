use Rattle.book.proofs.PlantLimits.{plant_claims}
use Rattle.book.proofs.promised.promises.Goals as goal

pub returns-clause-limits : goal.returns-clause-limits
returns-clause-limits c = plant_claims
