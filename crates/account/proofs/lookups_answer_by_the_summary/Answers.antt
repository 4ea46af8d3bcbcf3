-- The lookup of a role answers by the summary.
-- Rests on Lookup.
use Rattle.account.proofs.Lookup.{looks_up}
use Rattle.account.proofs.lookups_answer_by_the_summary.Goals as goal

pub returns : goal.returns
returns c = looks_up
