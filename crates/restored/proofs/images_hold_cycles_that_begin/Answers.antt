-- The cycle that an image holds is one that its chip begins.
-- Rests on CycleBegins.
use Rattle.restored.proofs.CycleBegins.{cycle_begins}
use Rattle.restored.proofs.images_hold_cycles_that_begin.Goals as goal

pub returns : goal.returns
returns c = cycle_begins
