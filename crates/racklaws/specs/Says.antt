-- Which further line of a rack's script says which event, digit by digit ("A rack of cards", "Script and program").
use Rattle.std.specs.Prelude.{List, ◌++◌, ℕ, ◌<◌}
use Rattle.text.specs.Quoted.{codes}
use Rattle.racklaws.specs.Digits.{two_digits, four_digits}
use Rattle.racklaws.specs.Whom.{RackEvent, rack_event}

-- A line, without its LF, says an event in five forms: 00; 01 and an address of four digits; 02; 03, an address and a byte of two digits; 05, and a
-- place, a port and levels of two digits each. No other line says one: not 04, and not one with an operand, or a digit, more or less.
pub data Says : List ℕ → RackEvent → Type 0 where
  reset : Says (codes "00") (rack_event 0 0 0 0)
  begin_read : {a : ℕ} → a < 65536 → Says (codes "01" ++ four_digits a) (rack_event 1 a 0 0)
  end_cycle : Says (codes "02") (rack_event 2 0 0 0)
  begin_write : {a d : ℕ} → a < 65536 → d < 256
      → Says (codes "03" ++ four_digits a ++ two_digits d) (rack_event 3 a d 0)
  levels : {i p d : ℕ} → i < 256 → p < 256 → d < 256
      → Says (codes "05" ++ two_digits i ++ two_digits p ++ two_digits d) (rack_event 5 i p d)

-- A line says some event.
abbrev pub SaysAnEvent : List ℕ → Type 0
SaysAnEvent bytes = (e : RackEvent) × Says bytes e
