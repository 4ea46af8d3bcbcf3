-- The words in which the theorems speak: what is seen of the chip from outside, and the pins of each channel.
use Rattle.std.specs.Prelude.{Bool, false, cond, not, ◌&&◌, ℕ, ◌/◌, ◌%◌, eqb}
use Rattle.bits.specs.Bit.{bit_of}
use Rattle.bus.specs.declared.Phase.{Phase}
use Rattle.bus.specs.declared.Phase.TheVariants.{Idle, Reading, Writing}
use Rattle.control.specs.declared.Group.{Group}
use Rattle.control.specs.declared.Group.TheVariants.{A, B}
use Rattle.chip.specs.declared.channel.Side.{Side}
use Rattle.chip.specs.declared.Chip.{Chip}
use Rattle.chip.specs.Handshakes.{line_pin}
use Rattle.chip.specs.Reads.{read_of}
use Rattle.chip.specs.Pins.{pins_of}

-- The level of pin n of port C in the pin view.
abbrev pub pin : Chip → ℕ → Bool
pin c n = bit_of (pins_of c 2).levels n

-- Bit n of a read of port C.
abbrev pub told : Chip → ℕ → Bool
told c n = bit_of (read_of c 2) n

-- The chip drives pin n of port C.
abbrev pub driven : Chip → ℕ → Bool
driven c n = bit_of (pins_of c 2).driven n

-- The pin of a group's INTR ("Port C roles").
abbrev pub intr_pin : Group → ℕ
intr_pin A = 3
intr_pin B = 0

-- Levels d on port x lower a channel's STB or ACK, which the pins show high.
abbrev pub lowers : Chip → Group → Side → ℕ → ℕ → Bool
lowers c g s x d = eqb x 2 && (pin c (line_pin g s) && not (bit_of d (line_pin g s)))

-- A write of a mode word runs, which will make the chip anew at its end.
abbrev pub makes_anew : Phase → Bool
makes_anew Idle = false
makes_anew (Reading p) = false
makes_anew (Writing a d) = eqb a 3 && bit_of d 7

-- A write to control runs, be it of a mode word or of bit set/reset.
abbrev pub commands : Phase → Bool
commands Idle = false
commands (Reading p) = false
commands (Writing a d) = eqb a 3

-- A write of bit set/reset runs, which will put pin n of port C to v at its end ("Writes and bit set/reset").
abbrev pub puts : Phase → ℕ → Bool → Bool
puts Idle n v = false
puts (Reading p) n v = false
puts (Writing a d) n v = eqb a 3 && (not (bit_of d 7) && (eqb (d / 2 % 8) n && cond v (bit_of d 0) (not (bit_of d 0))))
