-- What the discipline asks: from power-up, from any chip, at the start, and of what it forbids.
-- Rests on Minds.
use Rattle.chip.specs.State.{power_up_as}
use Rattle.fates.proofs.Minds.{each_minds, read_has_found, falls_on}
use Rattle.fates.proofs.discipline_is_these_two_rules.Goals as goal

pub returns : goal.returns
returns c = record {
  power_up = λ g ed l es. each_minds g es (power_up_as ed l);
  any_chip = λ g chip es. each_minds g es chip;
  at_the_start = read_has_found;
  falls = falls_on;
}
