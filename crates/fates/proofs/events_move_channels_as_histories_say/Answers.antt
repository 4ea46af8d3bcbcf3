-- Every event moves each channel as the history says.
-- Rests on Projection.
use Rattle.fates.proofs.Projection.{follows}
use Rattle.fates.proofs.events_move_channels_as_histories_say.Goals as goal

pub returns : goal.returns
returns c = λ g s chip e. let moves = follows chip g s e in record { fill = moves.fill; tally = moves.tally; latch = moves.latch }
