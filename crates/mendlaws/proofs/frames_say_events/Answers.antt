-- A line is a frame exactly where it says an event, and is read as that.
-- Rests on OneLine.
use Rattle.mendlaws.proofs.OneLine.{frame_exactly, says_event}
use Rattle.mendlaws.proofs.frames_say_events.Goals as goal

pub returns : goal.returns
returns c = record { frame = frame_exactly; event = λ bytes e. says_event }
