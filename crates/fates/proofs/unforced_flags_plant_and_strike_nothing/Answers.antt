-- Where no flag is forced nothing is planted or struck: from power-up, from any chip, and in the history of a script.
-- Rests on Unforced.
use Rattle.chip.specs.State.{all_high}
use Rattle.text.specs.History.{history_of}
use Rattle.fates.proofs.Unforced.{unforced, unforced_from}
use Rattle.fates.proofs.unforced_flags_plant_and_strike_nothing.Goals as goal

pub returns : goal.returns
returns c = record {
  power_up = unforced;
  any_chip = unforced_from;
  script = λ ed text g s. unforced g s ed all_high (history_of text);
}
