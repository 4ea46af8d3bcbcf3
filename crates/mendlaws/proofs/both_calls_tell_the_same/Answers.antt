-- The call of Rattle tells what the call for C answers.
-- Rests on Tells.
use Rattle.mendlaws.proofs.Tells.{tells}
use Rattle.mendlaws.proofs.both_calls_tell_the_same.Goals as goal

pub returns : goal.returns
returns c = tells
