-- What the 8355 shows on its pins, and what a read answers ("The 8355 ports").
use Rattle.std.specs.Prelude.{cond, ℕ, eqb}
use Rattle.bits.specs.Bit.{blend_of}
use Rattle.i8355.specs.declared.Port.{Port}
use Rattle.i8355.specs.declared.Chip8355.{Chip8355}
use Rattle.bus.specs.declared.Pins.{Pins}
use Rattle.i8355.specs.State.{port_a, port_b}

-- A pin whose direction bit is 1 shows the latch, any other what the outside puts there.
unfoldable pub shown_by : Port → ℕ
shown_by p = blend_of p.direction p.latch p.outside

-- The pin view of a port: these levels, and the direction as the mask of driven pins.
abbrev pub pins_of_port : Port → Pins
pins_of_port p = record { levels = shown_by p; driven = p.direction }

-- A port by its number. There is no port C: of it, and of every number above, the levels are 00 and nothing is driven.
unfoldable pub pins_of : Chip8355 → ℕ → Pins
pins_of c p =
    cond (eqb p port_a) (pins_of_port c.ports.a)
    (cond (eqb p port_b) (pins_of_port c.ports.b)
    (record { levels = 0; driven = 0 }))

-- A read answers what the pins show.
abbrev pub read_of : Chip8355 → ℕ → ℕ
read_of c x = (pins_of c x).levels
