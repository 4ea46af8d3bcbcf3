-- The pin view: the levels of a port, and a mask of the pins that the chip drives ("Reads and pins").
use Rattle.std.specs.Prelude.{Bool, true, false, cond, not, ℕ, eqb}
use Rattle.bits.specs.Bit.{bit_of, assembled}
use Rattle.control.specs.declared.Group.{Group}
use Rattle.control.specs.declared.Group.TheVariants.{A, B}
use Rattle.control.specs.Mode.{mode_of, output_of}
use Rattle.control.specs.Role.{Role, input, output, INTR, IBF, OBF, STB, ACK, role_of}
use Rattle.chip.specs.declared.channel.Side.TheVariants.{Output}
use Rattle.chip.specs.declared.Port.{Port}
use Rattle.chip.specs.declared.Core.{Core}
use Rattle.chip.specs.declared.Chip.{Chip}
use Rattle.chip.specs.Addresses.{port_a, port_b, port_c}
use Rattle.chip.specs.Handshakes.{line_pin}
use Rattle.bus.specs.declared.Pins.{Pins}
use Rattle.chip.specs.Reads.{read_as}

-- An output drives its lines. In mode 2 port A has them only as long as ACK, held low, asks for the byte.
unfoldable pub drives_port : Core → Group → Bool
drives_port c A = cond (eqb (mode_of c.word A) 2) (not (bit_of c.c.outside (line_pin A Output))) (output_of c.word A)
drives_port c B = output_of c.word B

-- Driven lines show the latch, and others what the outside puts there.
unfoldable pub pins_of_port : Port → Bool → Pins
pins_of_port p on = record { levels = cond on p.output.latch p.outside; driven = cond on 0xff 0 }

-- On port C the chip drives its free outputs and its own signals, and leaves alone what it listens to.
abbrev pub is_driven : Role → Bool
is_driven input = false
is_driven output = true
is_driven INTR = true
is_driven IBF = true
is_driven OBF = true
is_driven STB = false
is_driven ACK = false

-- A driven pin shows what a read of it tells, any other the level put there from outside.
abbrev pub level_as : Chip → ℕ → Role → Bool
level_as c n r = cond (is_driven r) (read_as c n r) (bit_of c.core.c.outside n)

-- Port C as the outside sees it, each pin in its role.
unfoldable pub pins_of_lines : Chip → Pins
pins_of_lines c = record {
  levels = assembled (λ n. level_as c n (role_of c.core.word n));
  driven = assembled (λ n. is_driven (role_of c.core.word n));
}

-- A port by its number; where there is no port there is no level and nothing is driven ("Events and numbers").
unfoldable pub pins_of : Chip → ℕ → Pins
pins_of c p =
    cond (eqb p port_a) (pins_of_port c.core.a (drives_port c.core A))
    (cond (eqb p port_b) (pins_of_port c.core.b (drives_port c.core B))
    (cond (eqb p port_c) (pins_of_lines c)
    (record { levels = 0; driven = 0 })))
