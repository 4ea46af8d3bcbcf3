-- What is promised of a chip alone, of each card.
-- Rests on Cards.
use Rattle.racklaws.proofs.Cards.{as_alone, as_alone_from}
use Rattle.racklaws.proofs.promises_hold_of_each_card.Goals as goal

pub returns : goal.returns
returns c = record { built = as_alone; any = as_alone_from }
