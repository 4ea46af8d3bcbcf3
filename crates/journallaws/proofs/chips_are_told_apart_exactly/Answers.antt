-- Two chips are told apart exactly, by the test and by their images.
-- Rests on Same.
use Rattle.journallaws.proofs.Same.{exactly, one_chip}
use Rattle.journallaws.proofs.chips_are_told_apart_exactly.Goals as goal

pub returns : goal.returns
returns c = record { test = exactly; images = one_chip }
