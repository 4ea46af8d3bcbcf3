-- Which bytes are an older image, what they tell, and what becomes of them.
-- Rests on OlderBytes.
use Rattle.restored.proofs.OlderBytes.{layout_tells, converted, older_image_where, told_once, layout_converted}
use Rattle.restored.proofs.older_images_tell_chips_place_by_place.Goals as goal

pub returns : goal.returns
returns c = record {
  older_image = older_image_where;
  one = told_once;
  converted = λ o c bytes has t. converted o bytes c t has;
  saved = layout_tells;
  brought_over = layout_converted;
}
