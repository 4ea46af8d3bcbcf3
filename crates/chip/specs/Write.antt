-- The end of a write ("Writes and bit set/reset", "Handshake").
use Rattle.std.specs.Prelude.{Bool, cond, ◌&&◌, ◌||◌, ℕ, eqb}
use Rattle.bits.specs.Bit.{bit_of, assembled}
use Rattle.control.specs.declared.Group.{Group}
use Rattle.control.specs.declared.Group.TheVariants.{A}
use Rattle.control.specs.Mode.{mode_of, strobed_output, output_of}
use Rattle.control.specs.Role.{role_of, in_lower_half}
use Rattle.control.specs.Pins.{is_output}
use Rattle.chip.specs.declared.channel.Channel.{Channel}
use Rattle.chip.specs.Moves.{after_offer}
use Rattle.chip.specs.declared.Port.{Port}
use Rattle.chip.specs.declared.Core.{Core}
use Rattle.chip.specs.Addresses.{port_c, control}
use Rattle.chip.specs.State.{with_output, with_latch, on_port}
use Rattle.chip.specs.ControlWord.{after_control_word}

-- Where ACK takes the bytes, a written one is offered; elsewhere it only stands in the latch.
abbrev pub stored_in : Channel → Bool → ℕ → Channel
stored_in ch strobed d = cond strobed (after_offer ch d) (record { fill = ch.fill; latch = d; tally = ch.tally })

-- None but an output keeps what is written to it.
unfoldable pub stored_by : Port → ℕ → Group → ℕ → Port
stored_by p w g d = cond (output_of w g) (with_output p (stored_in p.output (strobed_output w g) d)) p

-- A write to port C reaches its free outputs, but those of the upper half only while group A is in mode 0: beside a handshake
-- of A they are set one at a time.
abbrev pub writable : ℕ → ℕ → Bool
writable w n = is_output (role_of w n) && (in_lower_half n || eqb (mode_of w A) 0)

-- Port C's latch x after a write of d, bit by bit.
unfoldable pub latch_written : ℕ → ℕ → ℕ → ℕ
latch_written w x d = assembled (λ n. cond (writable w n) (bit_of d n) (bit_of x n))

-- The end of a write of d to the address x: port C, control, or one of the other ports; no other address has anything
-- ("Events and numbers").
unfoldable pub after_write_ends : Core → ℕ → ℕ → Core
after_write_ends c x d =
    cond (eqb x port_c) (with_latch c (latch_written c.word c.c.latch d))
    (cond (eqb x control) (after_control_word c d)
    (on_port c x (λ g p. stored_by p c.word g d)))
