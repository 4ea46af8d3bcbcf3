-- Which events force a flag: from power-up, and from any chip.
-- Rests on Forces.
use Rattle.chip.specs.State.{power_up_as}
use Rattle.fates.proofs.Forces.{none_forces}
use Rattle.fates.proofs.flags_are_forced_by_these_writes.Goals as goal

pub returns : goal.returns
returns c = record { power_up = λ g s ed l es. none_forces g s es (power_up_as ed l); any_chip = λ g s chip es. none_forces g s es chip }
