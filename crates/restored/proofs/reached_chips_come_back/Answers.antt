-- Every chip that is reached has an image, and comes back from it.
-- Rests on Stays, and on image's ComesBack and OneImage.
use Rattle.std.proofs.Common.{◌≡◌, true}
use Rattle.chip.specs.declared.Chip.{Chip}
use Rattle.chip.specs.State.{power_up_as}
use Rattle.chip.specs.Step.{stepped}
use Rattle.fates.specs.Promise.{run}
use Rattle.image.specs.Good.{has_image}
use Rattle.image.proofs.ComesBack.{comes_back}
use Rattle.image.proofs.OneImage.{has_image_lem}
use Rattle.restored.specs.Host.{ComesBack}
use Rattle.restored.proofs.Stays.{image_stays, reached}
use Rattle.restored.proofs.reached_chips_come_back.Goals as goal

back : (c : Chip) → has_image c ≡ true → ComesBack c
back c has = record { has = has; saved = has_image_lem c has; restored = comes_back c has }

pub returns : goal.returns
returns c = record {
  reached = λ ed v es. back (run (power_up_as ed v) es) (reached ed v es);
  stays = λ c e has. back (stepped c e).state (image_stays c e has);
}
