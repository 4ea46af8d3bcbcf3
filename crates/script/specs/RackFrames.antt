-- Frames: what a further line of a rack's script says ("A rack of cards", "Script and program").
use Rattle.std.specs.Prelude.{Bool, cond, ◌&&◌, ◌||◌, List, ℕ, ◌+◌, ◌*◌, eqb, ltb, length, drop, Option, Some, None}
use Rattle.bus.specs.Kinds as kinds
use Rattle.bus.specs.Kinds.{is_kind, begins}
use Rattle.rack.specs.declared.events.RackEvent.{RackEvent}
use Rattle.rack.specs.declared.events.RackEvent.TheVariants.{Reset, BeginRead, EndCycle, BeginWrite, OutsideLevels}
use Rattle.rack.specs.Answers.{event_numbered}
use Rattle.text.specs.Digits.{no_byte}
use Rattle.text.specs.Frames.{leading_byte, kind_in, first_in, second_in}
use Rattle.text.specs.Lines.{Line, ended, rest}

-- What a line says: an event, by its kind and three operands, of which the first may be an address; or no frame.
pub data RackFrame : Type 0 where
  Event : ℕ → ℕ → ℕ → ℕ → RackFrame
  NoFrame : RackFrame

-- The third byte behind the kind.
abbrev pub third_in : List ℕ → ℕ
third_in line = leading_byte (drop 6 line)

-- How many bytes the operands of a kind have: an address has two, and a byte, a place, a port and levels have one each. The beginning of a
-- read has an address, that of a write an address and a byte, levels a place, a port and these.
unfoldable pub operand_bytes : ℕ → ℕ
operand_bytes k = cond (eqb k kinds.begin_read) 2 (cond (eqb k kinds.begin_write || eqb k kinds.outside_levels) 3 0)

-- A line, without its LF, is a frame where it is a kind and exactly its operands, in two digits to a byte.
unfoldable pub is_rack_frame : List ℕ → Bool
is_rack_frame line =
    is_kind (kind_in line)
    && eqb (length line) (2 + 2 * operand_bytes (kind_in line))
    && ltb (first_in line) no_byte
    && ltb (second_in line) no_byte
    && ltb (third_in line) no_byte

-- The event of a kind and the bytes behind it: in a kind that begins a cycle the first two are an address.
unfoldable pub event_of : ℕ → ℕ → ℕ → ℕ → RackFrame
event_of k x y z = cond (begins k) (Event k (y + 256 * x) z 0) (Event k x y z)

-- What a line says: an event, whose operands are 0 where its kind has none; or nothing, where it is no frame.
unfoldable pub rack_frame_of : List ℕ → RackFrame
rack_frame_of line = cond (is_rack_frame line) (event_of (kind_in line) (first_in line) (second_in line) (third_in line)) NoFrame

-- What a line of a text says. A rest without LF says nothing, however well it is formed.
unfoldable pub rack_frame_in : Line → RackFrame
rack_frame_in (ended bytes) = rack_frame_of bytes
rack_frame_in (rest bytes) = NoFrame

-- The event that a kind and the bytes behind it name.
abbrev pub event_named : ℕ → ℕ → ℕ → ℕ → Option RackEvent
event_named k x y z = cond (begins k) (event_numbered k (y + 256 * x) z 0) (event_numbered k x y z)

-- What an answer tells of a line: an event by its numbers, with zeros for the operands that its kind lacks; or that the line is no frame.
abbrev pub rack_frame_told : Option RackEvent → RackFrame
rack_frame_told None = NoFrame
rack_frame_told (Some Reset) = Event kinds.reset 0 0 0
rack_frame_told (Some (BeginRead a)) = Event kinds.begin_read a 0 0
rack_frame_told (Some EndCycle) = Event kinds.end_cycle 0 0 0
rack_frame_told (Some (BeginWrite a d)) = Event kinds.begin_write a d 0
rack_frame_told (Some (OutsideLevels i p d)) = Event kinds.outside_levels i p d
