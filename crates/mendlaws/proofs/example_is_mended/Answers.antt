-- The example is mended as it says.
-- Rests on Example.
use Rattle.std.proofs.Common.{refl}
use Rattle.mendlaws.proofs.Example.{mended_so}
use Rattle.mendlaws.proofs.example_is_mended.Goals as goal

pub returns : goal.returns
returns c = record { gives = mended_so; fifteen = refl }
