-- Under the discipline no byte is lost: from power-up, from any chip, and in the history of a script.
-- Rests on Discipline.
use Rattle.chip.specs.State.{all_high}
use Rattle.text.specs.History.{history_of}
use Rattle.fates.proofs.Discipline.{disciplined, disciplined_from}
use Rattle.fates.proofs.disciplined_bytes_are_not_lost.Goals as goal

pub returns : goal.returns
returns c = record {
  power_up = disciplined;
  any_chip = disciplined_from;
  script = λ ed text g. disciplined g ed all_high (history_of text);
}
