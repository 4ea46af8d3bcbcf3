-- The history that a text is ("Script and program").
use Rattle.std.specs.Prelude.{List, map, ℕ}
use Rattle.bus.specs.Event.{Event, event}
use Rattle.text.specs.Lines.{Line, lines_of}
use Rattle.text.specs.Frames.{Frame, Event as FrameEvent, NoFrame, frame_in}

-- A frame is its event; what is no frame is an event of no kind, so that the place of an event is the number of its line.
abbrev pub event_of : Frame → Event
event_of (FrameEvent k x d) = event k x d
event_of NoFrame = event 0xff 0 0

-- The history of a text: an event for each line.
abbrev pub history_of : List ℕ → List Event
history_of text = map (λ (l : Line). event_of (frame_in l)) (lines_of text)
