-- INTR, by the pins.
-- Rests on InterruptPins.
use Rattle.laws.proofs.InterruptPins.{in_mode_1, in_mode_2}
use Rattle.laws.proofs.interrupts_are_told_by_the_pins.Goals as goal

pub returns : goal.returns
returns c = record { mode_1 = in_mode_1; mode_2 = in_mode_2 }
