-- The two histories keep to the discipline.
-- Rests on Asked.
use Rattle.fates.proofs.Asked.{asks_no_more}
use Rattle.fates.proofs.discipline_asks_no_more.Goals as goal

pub returns : goal.returns
returns c = asks_no_more
