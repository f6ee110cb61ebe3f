use Rattle.tools.proofs.Laws.FirstRecord.{first_told}
use Rattle.tools.proofs.converter.begins_with_version_1.Goals as goal

pub returns-in-Some-Hour : goal.returns-in-Some-Hour
returns-in-Some-Hour c = first_told _ c.requires _ _ c.read_record.ensures.0 _ c.in-Some-Hour.is _ c.is_version_1.ensures
