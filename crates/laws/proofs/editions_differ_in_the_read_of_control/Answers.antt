-- What the editions have in common.
-- Rests on Editions.
use Rattle.laws.proofs.Editions.{editions_alike, edition_unseen, edition_stays}
use Rattle.laws.proofs.editions_differ_in_the_read_of_control.Goals as goal

pub returns : goal.returns
returns c = record { given_alike = editions_alike; unseen = edition_unseen; stays = edition_stays }
