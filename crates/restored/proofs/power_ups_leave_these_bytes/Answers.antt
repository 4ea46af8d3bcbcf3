-- What a power-up leaves.
-- Rests on SwitchedOn.
use Rattle.restored.proofs.SwitchedOn.{switches_on}
use Rattle.restored.proofs.power_ups_leave_these_bytes.Goals as goal

pub returns : goal.returns
returns c = switches_on
