-- Flags that are forced.
-- Rests on ForcedFlag.
use Rattle.laws.proofs.ForcedFlag.{flag_forced}
use Rattle.laws.proofs.forced_flags_are_shown_and_counted.Goals as goal

pub returns : goal.returns
returns c = flag_forced
