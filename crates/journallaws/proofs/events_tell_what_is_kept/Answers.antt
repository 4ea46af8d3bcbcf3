-- Which events are kept, by the events alone.
-- Rests on ByEvents.
use Rattle.journallaws.proofs.ByEvents.{by_events}
use Rattle.journallaws.proofs.events_tell_what_is_kept.Goals as goal

pub returns : goal.returns
returns c = by_events
