-- What ports A and B show, and what a read of them answers: an output, an input, and port A both ways ("Reads and pins").
use Rattle.std.specs.Prelude.{◌≡◌, true, false, cond, ℕ}
use Rattle.control.specs.declared.Group.{Group}
use Rattle.chip.specs.declared.Chip.{Chip}
use Rattle.chip.specs.State.{port_of}
use Rattle.chip.specs.Reads.{read_of}
use Rattle.chip.specs.Pins.{pins_of}
use Rattle.laws.specs.Seen.{pin}
use Rattle.laws.specs.PlainBits.{handshake, output_only, input_only}

-- An output in mode 0 or 1, at its address a: the chip drives all eight lines with the output latch, and a read answers it.
pub record Gives (c : Chip) (g : Group) (a : ℕ) : Type 0 where
  pub shows : pins_of c a ≡ record { levels = (port_of c.core g).output.latch; driven = 0xff }
  pub answers : read_of c a ≡ (port_of c.core g).output.latch

-- An input in mode 0 or 1: the lines are the outside's, and a read answers the input latch where there is a handshake, and the lines where there
-- is none.
pub record Takes (c : Chip) (g : Group) (a : ℕ) : Type 0 where
  pub shows : pins_of c a ≡ record { levels = (port_of c.core g).outside; driven = 0 }
  pub answers : read_of c a ≡ cond (handshake c.core.word g) (port_of c.core g).input.latch (port_of c.core g).outside

-- A write of b to the port, at its address a, has ended. It changes nothing of an input in mode 0 or 1. Any other port has the byte in its
-- output latch, and an output in mode 0 or 1 shows it.
pub record PortWritten (before : Chip) (g : Group) (a b : ℕ) (after : Chip) : Type 0 where
  pub to_input : input_only before.core.word g ≡ true → after.core ≡ before.core
  pub to_output : input_only before.core.word g ≡ false → (port_of after.core g).output.latch ≡ b
  pub shown : output_only before.core.word g ≡ true → pins_of after a ≡ record { levels = b; driven = 0xff }

-- Port A both ways, in mode 2: the chip drives the lines with the output latch while the pins show ACK low, and only then; a read answers the
-- input latch.
pub record GivesAndTakes (c : Chip) : Type 0 where
  pub shows : pins_of c 0 ≡ cond (pin c 6) (record { levels = c.core.a.outside; driven = 0 }) (record { levels = c.core.a.output.latch; driven = 0xff })
  pub answers : read_of c 0 ≡ c.core.a.input.latch
