-- Which chips have an image.
-- Rests on Having and InRange.
use Rattle.restored.proofs.Having.{has_where}
use Rattle.restored.proofs.InRange.{restored_where}
use Rattle.restored.proofs.chips_that_have_an_image.Goals as goal

pub returns : goal.returns
returns c = record { conditions = has_where; restored = restored_where }
