-- What belongs to each of the two groups ("Two groups").
use Rattle.std.specs.Prelude.{Bool, ◌&&◌, ℕ, ltb}
use Rattle.bits.specs.Bit.{bit_of, assembled}
use Rattle.control.specs.declared.Group.{Group}
use Rattle.control.specs.declared.Group.TheVariants.{A, B}
use Rattle.chip.specs.declared.channel.Side.TheVariants.{Input, Output}
use Rattle.chip.specs.declared.channel.Channel.{Channel}
use Rattle.chip.specs.declared.Chip.{Chip}
use Rattle.chip.specs.State.{port_of, channel_of}
use Rattle.chip.specs.Handshakes.{enable_of}
use Rattle.chip.specs.declared.reasons.Explained.{Explained}
use Rattle.chip.specs.Reasons.{explained_in}
use Rattle.bus.specs.declared.Pins.{Pins}
use Rattle.chip.specs.Reads.{read_of}
use Rattle.chip.specs.Pins.{pins_of}
use Rattle.fates.specs.Effects.{port_number}

-- Of the pins of port C 7 to 3 belong to group A, and 2 to 0 to group B.
abbrev pub its_pin : Group → ℕ → Bool
its_pin A n = ltb 2 n
its_pin B n = ltb n 3

-- The bits of a byte at the group's pins, and 0 at all others.
abbrev pub at_its_pins : Group → ℕ → ℕ
at_its_pins g x = assembled (λ n. its_pin g n && bit_of x n)

-- What belongs to a group.
pub record Belongings : Type 0 where
  -- Both channels, each with its latch, its condition and its tallies.
  pub input : Channel
  pub output : Channel
  -- Their enables, which are one in group B, and what is said of INTR.
  pub input_enabled : Bool
  pub output_enabled : Bool
  pub interrupt : Explained
  -- The port: the levels and the driven mask, what a read answers, and the levels that the outside puts there.
  pub port : Pins
  pub port_read : ℕ
  pub port_outside : ℕ
  -- The pins of port C: the levels, the driven mask, what a read tells of them, their bits of the latch, and the levels that the outside puts
  -- there.
  pub levels : ℕ
  pub driven : ℕ
  pub told : ℕ
  pub latch : ℕ
  pub outside : ℕ

-- All of it, of a chip. The mode word, the edition and the bus are shared, and belong to neither group.
abbrev pub belongings_of : Group → Chip → Belongings
belongings_of g c = record {
  input = channel_of c.core g Input;
  output = channel_of c.core g Output;
  input_enabled = enable_of c.core.inte g Input;
  output_enabled = enable_of c.core.inte g Output;
  interrupt = explained_in c g;
  port = pins_of c (port_number g);
  port_read = read_of c (port_number g);
  port_outside = (port_of c.core g).outside;
  levels = at_its_pins g (pins_of c 2).levels;
  driven = at_its_pins g (pins_of c 2).driven;
  told = at_its_pins g (read_of c 2);
  latch = at_its_pins g c.core.c.latch;
  outside = at_its_pins g c.core.c.outside;
}
