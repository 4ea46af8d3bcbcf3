-- What a read answers ("Reads and pins", "The 82C55A").
use Rattle.std.specs.Prelude.{Bool, true, cond, ℕ, eqb}
use Rattle.bits.specs.Bit.{bit_of, assembled, with_bit}
use Rattle.control.specs.declared.Group.{Group}
use Rattle.control.specs.declared.Group.TheVariants.{A, B}
use Rattle.control.specs.Mode.{strobed_input, output_of}
use Rattle.control.specs.Role.{Role, input, output, INTR, IBF, OBF, STB, ACK, role_of}
use Rattle.chip.specs.declared.channel.Side.TheVariants.{Input, Output}
use Rattle.chip.specs.declared.Port.{Port}
use Rattle.chip.specs.declared.Chip.{Chip}
use Rattle.chip.specs.Addresses.{port_a, port_b, port_c, control}
use Rattle.chip.specs.Handshakes.{group_at, enable_of}
use Rattle.chip.specs.Status.{flag_at, intr_of}

-- A strobed input gives its latch, be that a byte that waits, an old one, or levels that came while STB was low and no byte did; another
-- port gives its latch where it is an output, and what stands on its lines where it is not.
unfoldable pub read_port : ℕ → Group → Port → ℕ
read_port w g p = cond (strobed_input w g) p.input.latch (cond (output_of w g) p.output.latch p.outside)

-- What a pin of port C tells in each role: a free one its line or its latch, a signal of the chip that signal, and the line of
-- a channel that channel's enable, whatever the level.
abbrev pub read_as : Chip → ℕ → Role → Bool
read_as c n input = bit_of c.core.c.outside n
read_as c n output = bit_of c.core.c.latch n
read_as c n INTR = intr_of c (group_at n)
read_as c n IBF = flag_at c.core (group_at n) Input
read_as c n OBF = flag_at c.core (group_at n) Output
read_as c n STB = enable_of c.core.inte (group_at n) Input
read_as c n ACK = enable_of c.core.inte (group_at n) Output

-- Port C as the processor sees it, each pin in its role.
unfoldable pub read_lines : Chip → ℕ
read_lines c = assembled (λ n. read_as c n (role_of c.core.word n))

-- Control gives the last mode word, with bit 7 set, whatever bit set/reset has done since ("The 82C55A").
unfoldable pub read_control : ℕ → ℕ
read_control w = with_bit w 7 true

-- A port by its address, or control; where there is neither, a read gives 00 ("Events and numbers"). That the older edition does not read control is
-- a refusal, and is not asked here.
unfoldable pub read_of : Chip → ℕ → ℕ
read_of c p =
    cond (eqb p port_a) (read_port c.core.word A c.core.a)
    (cond (eqb p port_b) (read_port c.core.word B c.core.b)
    (cond (eqb p port_c) (read_lines c)
    (cond (eqb p control) (read_control c.core.word)
    0)))
