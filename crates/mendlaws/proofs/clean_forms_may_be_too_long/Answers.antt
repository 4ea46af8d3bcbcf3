-- A text of 4,096 bytes whose clean form has one byte more is refused.
-- Rests on Longest.
use Rattle.mendlaws.proofs.Longest.{as_long_as_may_be, refused_then}
use Rattle.mendlaws.proofs.clean_forms_may_be_too_long.Goals as goal

pub returns : goal.returns
returns c = record { short = as_long_as_may_be; refused = refused_then }
