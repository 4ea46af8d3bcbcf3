-- Where the registers of the cards are.
-- Rests on Locations.
use Rattle.std.proofs.Common.{refl}
use Rattle.racklaws.proofs.Locations.{located}
use Rattle.racklaws.proofs.each_location_is_one_register.Goals as goal

pub returns : goal.returns
returns c = record { located = located; computed = refl }
