-- The example is trimmed as it says.
-- Rests on Example.
use Rattle.std.proofs.Common.{refl}
use Rattle.journallaws.proofs.Example.{trimmed_so}
use Rattle.journallaws.proofs.example_is_trimmed.Goals as goal

pub returns : goal.returns
returns c = record { gives = trimmed_so; eighteen = refl; ten = refl }
