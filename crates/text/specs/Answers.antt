-- What the functions answer, and are asked: a digit or a byte, where there is one; an event, where a line says one; and lines as they are lent
-- ("Script and program").
use Rattle.std.specs.Prelude.{cond, List, ℕ, ltb, Option, Some, None}
use denote.Ref.{Bor}
use Rattle.bus.specs.declared.events.Event as events
use Rattle.bus.specs.Answers.{raw}
use Rattle.text.specs.declared.line.Line as lent
use Rattle.text.specs.declared.lines.Lines.{Lines}
use Rattle.text.specs.Lines.{Line, ended, rest, lines_of}
use Rattle.text.specs.Frames.{Frame, Event, NoFrame}

-- A number below a bound. What stands where no digit was written is not below 16, and what stands where no byte was is not below 256.
abbrev pub if_below : ℕ → ℕ → Option ℕ
if_below bound n = cond (ltb n bound) (Some n) None

-- What an answer tells of a line: an event by its numbers, or that the line is no frame.
abbrev pub frame_told : Option events.Event → Frame
frame_told (Some e) = Event (raw e).kind (raw e).first (raw e).second
frame_told None = NoFrame

-- A line, by the bytes that are lent of a text.
abbrev pub line_of : lent.Line → Line
line_of (lent.TheVariants.Ended bytes) = ended bytes.now
line_of (lent.TheVariants.Rest bytes) = rest bytes.now

abbrev pub bytes_lent : lent.Line → Bor (List ℕ)
bytes_lent (lent.TheVariants.Ended bytes) = bytes
bytes_lent (lent.TheVariants.Rest bytes) = bytes

-- The lines that are left to come.
abbrev pub lines_left : Lines → List Line
lines_left s = lines_of s.text.now
