-- Which words are frames.
-- Rests on Shapes.
use Rattle.journallaws.proofs.Shapes.{is_shape, shape_is}
use Rattle.journallaws.proofs.frames_have_five_shapes.Goals as goal

pub returns : goal.returns
returns c = λ w. (is_shape w, shape_is)
