-- What is promised of an accepted call.
-- Rests on Trimmed.
use Rattle.journallaws.proofs.Trimmed.{trimmed}
use Rattle.journallaws.proofs.accepted_trims_keep_what_changes_the_chip.Goals as goal

pub returns : goal.returns
returns c = trimmed
