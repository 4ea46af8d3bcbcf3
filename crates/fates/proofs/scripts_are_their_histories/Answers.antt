-- A script is answered as its history is, and leaves the chip that its history leads to.
-- Rests on ScriptRun.
use Rattle.fates.proofs.ScriptRun.{answered_as_history, leaves}
use Rattle.fates.proofs.scripts_are_their_histories.Goals as goal

pub returns : goal.returns
returns c = record { answers = answered_as_history; chip = leaves }
