-- Each unfit line has its reason, and no other.
-- Rests on Reasons.
use Rattle.std.proofs.Common.{refl}
use Rattle.mendlaws.proofs.Reasons.{has_its_reason, as_beside}
use Rattle.mendlaws.proofs.unfit_lines_have_a_reason.Goals as goal

pub returns : goal.returns
returns c = record { reason = has_its_reason; examples = as_beside; nine = refl }
