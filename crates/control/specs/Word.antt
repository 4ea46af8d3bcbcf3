-- What a byte written to the control address says ("Mode words", "Writes and bit set/reset").
use Rattle.std.specs.Prelude.{cond, ℕ, ◌/◌, ◌%◌}
use Rattle.bits.specs.Bit.{bit_of}
use Rattle.control.specs.declared.word.Control.{Control}
use Rattle.control.specs.declared.word.Control.TheVariants.{Mode, Bit}

-- With bit 7 set it is a mode word. With bit 7 clear it puts pin n, in bits 3 to 1, to the value in bit 0; bits 6 to 4 are ignored.
unfoldable pub control_of : ℕ → Control
control_of d = cond (bit_of d 7) (Mode d) (Bit (d / 2 % 8) (bit_of d 0))
