-- The number of every call.
-- Rests on Numbered.
use Rattle.journallaws.proofs.Numbered.{numbered}
use Rattle.journallaws.proofs.trims_are_numbered.Goals as goal

pub returns : goal.returns
returns c = numbered
