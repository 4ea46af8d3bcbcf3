-- What is promised of every accepted call.
-- Rests on Mended.
use Rattle.mendlaws.proofs.Mended.{mended}
use Rattle.mendlaws.proofs.accepted_calls_mend.Goals as goal

pub returns : goal.returns
returns c = mended
