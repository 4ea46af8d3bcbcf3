-- The contracts of the 8355, at power-up and of what a read would answer, leave no choice. Rests on bits' Determined.
use Rattle.bits.proofs.Determined.{Determines, equation_determines}
use Rattle.i8355.specs.contracts as i8355_says
use Rattle.i8355.proofs as i8355

pub new_determined : Determines i8355_says.Chip8355.new.ended i8355.Chip8355.new.Reads.Learnt
new_determined c x y = equation_determines

pub answer_determined : Determines i8355_says.Chip8355.answer.ended i8355.Chip8355.answer.Reads.Learnt
answer_determined c x y = equation_determines
