-- One example keeps to the discipline, and one does not.
-- Rests on DisciplineKept.
use Rattle.fates.proofs.DisciplineKept.{two_digits_disciplined, lost_bale_undisciplined}
use Rattle.fates.proofs.discipline_can_be_kept_and_broken.Goals as goal

pub returns : goal.returns
returns c = record { kept = two_digits_disciplined; broken = lost_bale_undisciplined }
