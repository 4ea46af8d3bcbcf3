-- What a read of port C tells and what its pins show, by the status word ("Reads and pins").
use Rattle.std.specs.Prelude.{ℕ}
use Rattle.bits.specs.Bit.{blend_of}
use Rattle.control.specs.Pins.{handshake_pins, output_pins}
use Rattle.chip.specs.declared.Chip.{Chip}
use Rattle.chip.specs.Status.{status_of}
use Rattle.bus.specs.declared.Pins.{Pins}

-- A pin that a handshake has tells its bit of the status word; of the others an output tells the latch, and an input the level outside.
abbrev pub read_by_status : Chip → ℕ
read_by_status c =
    blend_of (handshake_pins c.core.word) (status_of c) (blend_of (output_pins c.core.word) c.core.c.latch c.core.c.outside)

-- Of the pins that handshakes have all but STB and ACK are driven: these are 2, 4 and 6.
abbrev pub signals : ℕ
signals = 0xab

-- Outputs are driven too.
abbrev pub driven_by_status : Chip → ℕ
driven_by_status c = blend_of (handshake_pins c.core.word) signals (output_pins c.core.word)

-- What is driven shows the status word at a handshake's pin, and the latch at another; what is not shows the level outside.
abbrev pub pins_by_status : Chip → Pins
pins_by_status c = record {
  levels = blend_of (driven_by_status c) (blend_of (handshake_pins c.core.word) (status_of c) c.core.c.latch) c.core.c.outside;
  driven = driven_by_status c;
}
