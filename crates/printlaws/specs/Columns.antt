-- The answers of a rack by the columns of a line ("A rack of cards", "Script and program").
use Rattle.std.specs.Prelude.{◌≡◌, List, [], ◌∷◌, ◌++◌, ℕ, ◌+◌, ◌*◌, ◌<◌, length, take, drop}
use Rattle.text.specs.Lines.{Line}
use Rattle.bus.specs.Device.{Given}
use Rattle.chip.specs.Pins.{pins_of}
use Rattle.rack.specs.declared.Rack.{Rack}
use Rattle.rack.specs.State.{chip_at}
use Rattle.rack.specs.Step.{step_of}
use Rattle.script.specs.RackFrames.{RackFrame, Event, NoFrame, rack_frame_in}
use Rattle.racklaws.specs.Digits.{two_digits}

-- What a rack makes of a line: its step, of the event that the line says. A line that is no frame has the number 1 and the byte 00, and the rack
-- stays as it was.
abbrev pub stepped_by : Rack → RackFrame → Given Rack
stepped_by r (Event k x y z) = step_of r k x y z
stepped_by r NoFrame = record { state = r; number = 1; byte = 0 }

abbrev pub step_at : Rack → Line → Given Rack
step_at r l = stepped_by r (rack_frame_in l)

-- The column of an answer line that begins behind n of its bytes: two bytes.
abbrev pub column : ℕ → List ℕ → List ℕ
column n line = take 2 (drop n line)

-- The answer line to a step, byte by byte: the number; the byte; of each card, in the order of the places, ports A, B and C as the card's own pins
-- show them after the step, each two digits; and LF. It has 5 bytes, and 6 for each card.
pub record AnswerLine (line : List ℕ) (given : Given Rack) : Type 0 where
  pub number : column 0 line ≡ two_digits given.number
  pub byte : column 2 line ≡ two_digits given.byte
  pub ports : (place port : ℕ) → place < given.state.count → port < 3
      → column (4 + 6 * place + 2 * port) line ≡ two_digits (pins_of (chip_at given.state place) port).levels
  pub ended : drop (4 + 6 * given.state.count) line ≡ 10 ∷ []
  pub width : length line ≡ 5 + 6 * given.state.count

-- Answers to some lines: one line to each, which meets the rack that the one before it left.
pub data Answers : Rack → List Line → List ℕ → Type 0 where
  none : {r : Rack} → Answers r [] []
  next : {r : Rack} {l : Line} {ls : List Line} {line later : List ℕ}
      → AnswerLine line (step_at r l) → Answers (step_at r l).state ls later → Answers r (l ∷ ls) (line ++ later)
