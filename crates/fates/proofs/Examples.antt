-- The bytes of every example are as it says, on either edition: one theorem, which the checker computes from the events.
-- Rests on nothing.
use Rattle.std.proofs.Common.{◌≡◌, refl}
use Rattle.bits.specs.Bit.{bit_of}
use Rattle.chip.specs.declared.Edition.{Edition}
use Rattle.chip.specs.declared.Edition.TheVariants.{Older, Newer}
use Rattle.fates.specs.Examples.{examples, found_in, said_of}

-- The two lists are one.
pub as_said : (ed : Edition) → found_in ed examples ≡ said_of examples
unfolding bit_of
as_said Older = refl
as_said Newer = refl
