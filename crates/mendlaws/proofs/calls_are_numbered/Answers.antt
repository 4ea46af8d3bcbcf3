-- The number of every call.
-- Rests on Numbered.
use Rattle.mendlaws.proofs.Numbered.{numbered}
use Rattle.mendlaws.proofs.calls_are_numbered.Goals as goal

pub returns : goal.returns
returns c text clean report signs script es = numbered text clean report
