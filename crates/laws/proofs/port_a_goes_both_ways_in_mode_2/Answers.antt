-- Port A in mode 2.
-- Rests on ModeTwo.
use Rattle.laws.proofs.ModeTwo.{mode_2_drives}
use Rattle.laws.proofs.port_a_goes_both_ways_in_mode_2.Goals as goal

pub returns : goal.returns
returns c = mode_2_drives
