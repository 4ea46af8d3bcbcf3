-- The bytes of every example are as it says, and how many there are.
-- Rests on Examples.
use Rattle.std.proofs.Common.{refl}
use Rattle.fates.proofs.Examples.{as_said}
use Rattle.fates.proofs.examples_have_these_bytes.Goals as goal

pub returns : goal.returns
returns c = record { said = as_said; rows = refl; bytes = refl }
