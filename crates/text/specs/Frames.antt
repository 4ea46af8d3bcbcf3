-- Frames: what a line of a script says ("Script and program").
use Rattle.std.specs.Prelude.{Bool, true, false, cond, ◌&&◌, List, [], ◌∷◌, ℕ, ◌+◌, ◌*◌, eqb, ltb, length, drop}
use Rattle.bus.specs.Kinds.{is_kind, operands_of}
use Rattle.text.specs.Digits.{no_byte, pair_value}
use Rattle.text.specs.Lines.{Line, ended, rest}

-- What a line says: an event, by its kind and two operands, or no frame.
pub data Frame : Type 0 where
  Event : ℕ → ℕ → ℕ → Frame
  NoFrame : Frame

-- The byte that a text begins with: of its first two codes; no byte where there is but one, and 0 where there is none.
unfoldable pub leading_byte : List ℕ → ℕ
leading_byte [] = 0
leading_byte (high ∷ []) = no_byte
leading_byte (high ∷ low ∷ later) = pair_value high low

-- The bytes of a line: its kind, and after that its operands.
abbrev pub kind_in : List ℕ → ℕ
kind_in line = leading_byte line

abbrev pub first_in : List ℕ → ℕ
first_in line = leading_byte (drop 2 line)

abbrev pub second_in : List ℕ → ℕ
second_in line = leading_byte (drop 4 line)

-- A line, without its LF, is a frame where it is a kind and exactly its operands, each of them two digits.
unfoldable pub is_frame : List ℕ → Bool
is_frame line =
    is_kind (kind_in line) && eqb (length line) (2 + 2 * operands_of (kind_in line)) && ltb (first_in line) no_byte && ltb (second_in line) no_byte

-- What a line says: an event, whose operands are 0 where its kind has none; or nothing, where it is no frame.
unfoldable pub frame_of : List ℕ → Frame
frame_of line = cond (is_frame line) (Event (kind_in line) (first_in line) (second_in line)) NoFrame

-- Whether it is an event that a line says.
abbrev pub is_event : Frame → Bool
is_event (Event k x d) = true
is_event NoFrame = false

-- What a line of a text says. A rest without LF says nothing, however well it is formed.
unfoldable pub frame_in : Line → Frame
frame_in (ended bytes) = frame_of bytes
frame_in (rest bytes) = NoFrame
