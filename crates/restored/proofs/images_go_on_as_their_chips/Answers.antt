-- What is promised from an image on, be it one that the conversion makes.
-- Rests on GoesOn and Converted.
use Rattle.restored.proofs.GoesOn.{goes_on_lem}
use Rattle.restored.proofs.Converted.{converted_goes_on}
use Rattle.restored.proofs.images_go_on_as_their_chips.Goals as goal

pub returns : goal.returns
returns c = record {
  image = λ l es bytes good. goes_on_lem l bytes good es;
  converted = λ o l es bytes good long. converted_goes_on o l bytes good long es;
}
