-- Every byte has one fate: from power-up, from any chip, and in the history of a script.
-- Rests on EveryByte and InTheLatch.
use Rattle.chip.specs.State.{all_high}
use Rattle.text.specs.History.{history_of}
use Rattle.fates.proofs.EveryByte.{fates, fates_from}
use Rattle.fates.proofs.InTheLatch.{held_from}
use Rattle.fates.proofs.every_byte_has_one_fate.Goals as goal

pub returns : goal.returns
returns c = record {
  power_up = fates;
  any_chip = fates_from;
  held = held_from;
  script = λ ed text g s. fates g s ed all_high (history_of text);
}
