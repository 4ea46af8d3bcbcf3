-- What moves the enables.
-- Rests on Enables.
use Rattle.laws.proofs.Enables.{enables_stay}
use Rattle.laws.proofs.enables_move_by_control_words.Goals as goal

pub returns : goal.returns
returns c = enables_stay
