-- What port C is put together from: what the handshakes in force have of it, and its two halves. The rules are those of Reads and Pins, and nothing
-- here adds to them.
use Rattle.std.specs.Prelude.{Bool, false, cond, not, ◌&&◌, ℕ, eqb}
use lib.Bits.{bit_or}
use Rattle.bits.specs.Bit.{bit_of, byte_of, blend_of}
use Rattle.control.specs.declared.Group.{Group}
use Rattle.control.specs.declared.Group.TheVariants.{A, B}
use Rattle.control.specs.Mode.{mode_of, strobed_input, strobed_output}
use Rattle.chip.specs.declared.channel.Side.{Side}
use Rattle.chip.specs.declared.channel.Side.TheVariants.{Input, Output}
use Rattle.chip.specs.declared.Chip.{Chip}
use Rattle.chip.specs.declared.in_force.Handshake.{Handshake}
use Rattle.chip.specs.Handshakes.{line_pin, enable_of, running}
use Rattle.chip.specs.Status.{flag_at}

-- The channel, if it is strobed, asks for an interrupt.
abbrev pub asks_of : Chip → Group → Side → Bool
asks_of c g s =
    enable_of c.core.inte g s && flag_at c.core g s && bit_of c.core.c.outside (line_pin g s) && not (running c.phase g s)

-- A channel has three pins: that of its line, which tells the enable, its flag and INTR.
abbrev pub on_pins : Group → Side → Bool → Bool → Bool → Handshake
on_pins A Input enable flag intr = record { pins = 0x38; told = byte_of false false flag enable intr false false false }
on_pins A Output enable flag intr = record { pins = 0xc8; told = byte_of flag enable false false intr false false false }
on_pins B s enable flag intr = record { pins = 0x07; told = byte_of false false false false false enable flag intr }

-- What a strobed channel has.
unfoldable pub of_channel : Chip → Group → Side → Handshake
of_channel c g s = on_pins g s (enable_of c.core.inte g s) (flag_at c.core g s) (asks_of c g s)

-- What two of them have.
abbrev pub joined : Handshake → Handshake → Handshake
joined one other = record { pins = bit_or one.pins other.pins; told = bit_or one.told other.told }

-- What a group has: in mode 2 that of both its channels, and otherwise that of the one that is strobed.
unfoldable pub of_group : Chip → Group → Handshake
of_group c g =
    cond (eqb (mode_of c.core.word g) 2) (joined (of_channel c g Input) (of_channel c g Output))
    (cond (strobed_input c.core.word g) (of_channel c g Input)
    (cond (strobed_output c.core.word g) (of_channel c g Output)
    (record { pins = 0; told = 0 })))

-- What both groups have.
unfoldable pub in_force : Chip → Handshake
in_force c = joined (of_group c A) (of_group c B)

-- Levels of port C with one half as it is where no handshake has a pin: an input has what is outside there.
abbrev pub half_of : Chip → Bool → ℕ → ℕ → ℕ
half_of c input pins levels = cond input (blend_of pins c.core.c.outside levels) levels
