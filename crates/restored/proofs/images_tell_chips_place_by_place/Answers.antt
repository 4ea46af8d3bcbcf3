-- Which bytes are an image, and what they tell.
-- Rests on Table.
use Rattle.restored.proofs.Table.{image_where, told_is, layout_tells}
use Rattle.restored.proofs.images_tell_chips_place_by_place.Goals as goal

pub returns : goal.returns
returns c = record { image = image_where; restored = told_is; saved = layout_tells }
