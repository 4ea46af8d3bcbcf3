-- The tallies balance, from power-up and from any chip in which they do.
-- Rests on Balance.
use Rattle.fates.proofs.Balance.{balanced, stays_balanced}
use Rattle.fates.proofs.tallies_balance.Goals as goal

pub returns : goal.returns
returns c = record { power_up = balanced; any_chip = stays_balanced }
