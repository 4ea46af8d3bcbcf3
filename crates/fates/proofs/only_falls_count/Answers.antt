-- Under a line that was low at power-up and is never raised nothing is offered or handed over.
-- Rests on OnlyFalls.
use Rattle.fates.proofs.OnlyFalls.{low_offers_nothing, low_takes_nothing}
use Rattle.fates.proofs.only_falls_count.Goals as goal

pub returns : goal.returns
returns c = record { offered = low_offers_nothing; handed_over = low_takes_nothing }
