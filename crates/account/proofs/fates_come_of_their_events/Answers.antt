-- Each byte has the fate of the event that decided it.
-- Rests on Decided.
use Rattle.account.proofs.Decided.{from_power_up_lem, from_chip}
use Rattle.account.proofs.fates_come_of_their_events.Goals as goal

pub returns : goal.returns
returns c = record { power_up = from_power_up_lem; any_chip = from_chip }
