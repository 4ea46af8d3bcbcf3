-- Bit set/reset.
-- Rests on OnePin.
use Rattle.laws.proofs.OnePin.{bit_set_changes_one}
use Rattle.laws.proofs.bit_set_reset_puts_one_pin.Goals as goal

pub returns : goal.returns
returns c = bit_set_changes_one
