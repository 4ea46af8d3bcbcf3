-- A line is read as an event exactly where it says it, and is taken so; any other is refused with 1.
-- Rests on Saying.
use Rattle.script.specs.RackFrames.{rack_frame_in}
use Rattle.racklaws.proofs.Saying.{read_as_said, said_as_read, taken, others_refused, rest_refused}
use Rattle.racklaws.proofs.rack_lines_say_events.Goals as goal

pub returns : goal.returns
unfolding rack_frame_in
returns c = record {
  read = λ bytes e. (said_as_read bytes e, read_as_said);
  taken = taken;
  others = others_refused;
  rest = rest_refused;
}
