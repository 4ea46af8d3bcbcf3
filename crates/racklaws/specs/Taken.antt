-- What a further line of a rack's script is read as, and what the rack makes of it ("A rack of cards", "Script and program").
use Rattle.std.specs.Prelude.{◌≡◌, List, ℕ}
use Rattle.bus.specs.Device.{gives}
use Rattle.text.specs.Lines.{Line, ended}
use Rattle.rack.specs.declared.Rack.{Rack}
use Rattle.script.specs.RackFrames.{Event, rack_frame_in}
use Rattle.script.specs.RackAnswers.{answering}
use Rattle.racklaws.specs.Whom.{RackEvent}
use Rattle.racklaws.specs.Promise.{rack_stepped}

-- A line, without its LF, is read as the event.
abbrev pub ReadAs : List ℕ → RackEvent → Type 0
ReadAs bytes e = rack_frame_in (ended bytes) ≡ Event e.kind e.first e.second e.third

-- The rack takes it as the event: it gives what its step does.
abbrev pub TakenAs : Rack → List ℕ → RackEvent → Type 0
TakenAs r bytes e = answering.takes r (ended bytes) ≡ rack_stepped r e

-- The rack refuses a line, or a rest, with 1: it stays as it was, and the byte is 00.
abbrev pub RefusesLine : Rack → Line → Type 0
RefusesLine r l = answering.takes r l ≡ gives r 1 0
