-- The chip at power-up, under named levels, and as a mode word then finds it ("State").
use Rattle.std.specs.Prelude.{◌≡◌, true, ℕ, ◌<◌}
use Rattle.bits.specs.Bit.{bit_of}
use Rattle.control.specs.declared.Group.{Group}
use Rattle.chip.specs.declared.channel.Side.{Side}
use Rattle.chip.specs.declared.Chip.{Chip}
use Rattle.chip.specs.declared.Levels.{Levels}
use Rattle.chip.specs.State.{no_byte, channel_of}
use Rattle.chip.specs.Handshakes.{strobed, line_pin}
use Rattle.chip.specs.Pins.{pins_of}
use Rattle.laws.specs.Seen.{pin}

-- Each port shows the levels that were named for it, and nothing is driven.
pub record AsNamed (l : Levels) (c : Chip) : Type 0 where
  pub a : pins_of c 0 ≡ record { levels = l.a; driven = 0 }
  pub b : pins_of c 1 ≡ record { levels = l.b; driven = 0 }
  pub lines : (n : ℕ) → n < 8 → pin c n ≡ bit_of l.c n
  pub lines_driven : (pins_of c 2).driven ≡ 0

-- A mode word finds the lines as they were named, and takes no level for a fall: no channel has had a byte.
pub record Starts (l : Levels) (w : ℕ) (c : Chip) : Type 0 where
  pub line : (g : Group) (s : Side) → strobed w g s ≡ true → pin c (line_pin g s) ≡ bit_of l.c (line_pin g s)
  pub none : (g : Group) (s : Side) → channel_of c.core g s ≡ no_byte
