-- The facts about cycles, of the 8355: those of every device on the bus, applied to this one.
-- Rests on the bus's Facts.
use Rattle.std.proofs.Common.{refl}
use Rattle.bus.specs.Facts.{Facts}
use Rattle.bus.proofs.Facts as bus
use Rattle.i8355.specs.declared.Chip8355.{Chip8355}
use Rattle.i8355.specs.Step.{limits, device}
use Rattle.laws8355.specs.Places.{places}

pub facts : (c : Chip8355) → Facts device places c
facts c = bus.facts device limits c refl
