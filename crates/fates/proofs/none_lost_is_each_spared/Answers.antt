-- No byte is lost exactly where each has one of the other four fates.
-- Rests on Spared.
use Rattle.fates.proofs.Spared.{none_lost_spares}
use Rattle.fates.proofs.none_lost_is_each_spared.Goals as goal

pub returns : goal.returns
returns c = none_lost_spares
