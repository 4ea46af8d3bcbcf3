-- Channels without a handshake.
-- Rests on Unstrobed.
use Rattle.laws.proofs.Unstrobed.{unstrobed_stays}
use Rattle.laws.proofs.channels_without_a_handshake_stay.Goals as goal

pub returns : goal.returns
returns c = unstrobed_stays
