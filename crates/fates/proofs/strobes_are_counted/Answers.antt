-- The tally of n strobes.
-- Rests on ManyOffers.
use Rattle.fates.proofs.ManyOffers.{many_offers, seventy_thousand}
use Rattle.fates.proofs.strobes_are_counted.Goals as goal

pub returns : goal.returns
returns c = record { any_number = many_offers; example = seventy_thousand }
