-- A refused event changes nothing, and reaches no card.
-- Rests on Refusals.
use Rattle.racklaws.proofs.Refusals.{refused_reaches_none, refusal_changes_nothing}
use Rattle.racklaws.proofs.refused_events_change_nothing.Goals as goal

pub returns : goal.returns
returns c r whole e n = record { unchanged = refusal_changes_nothing r whole e n; reaches_none = refused_reaches_none r whole e n }
