-- A state with the cause of a low half altered, and what a high half is ("Why the interrupt is quiet").
use Rattle.std.specs.Prelude.{◌≡◌, true}
use Rattle.bits.specs.Bit.{with_bit}
use Rattle.bus.specs.declared.Phase.TheVariants.{Idle}
use Rattle.control.specs.declared.Group.{Group}
use Rattle.chip.specs.declared.channel.Side.{Side}
use Rattle.chip.specs.declared.channel.Side.TheVariants.{Input, Output}
use Rattle.chip.specs.declared.channel.Fill.{Fill}
use Rattle.chip.specs.declared.channel.Fill.TheVariants.{Empty, Waiting}
use Rattle.chip.specs.declared.channel.Channel.{Channel}
use Rattle.chip.specs.declared.Core.{Core}
use Rattle.chip.specs.declared.Chip.{Chip}
use Rattle.chip.specs.State.{port_of, channel_of, with_input, with_output, with_port, with_enables}
use Rattle.chip.specs.Handshakes.{line_pin}
use Rattle.chip.specs.declared.reasons.Reason.{Reason}
use Rattle.chip.specs.declared.reasons.Reason.TheVariants.{EnableOff, FlagWrong, LineLow, OwnCycle, High}
use Rattle.chip.specs.Status.{request_of}
use Rattle.chip.specs.Reasons.{reason_of}
use Rattle.chip.specs.ControlWord.{enabled}
use Rattle.laws.specs.Seen.{pin, intr_pin}
use Rattle.laws.specs.Quiet.{later, NoneSeen}

-- A condition in which a channel's flag is right: a byte in an input, none in an output.
abbrev pub right_fill : Side → Fill
right_fill Input = Waiting
right_fill Output = Empty

-- A channel in that condition.
abbrev pub righted : Side → Channel → Channel
righted s ch = record { fill = right_fill s; latch = ch.latch; tally = ch.tally }

-- A core with another channel of that group and side.
abbrev pub with_channel : Core → Group → Side → Channel → Core
with_channel c g Input ch = with_port c g (with_input (port_of c g) ch)
with_channel c g Output ch = with_port c g (with_output (port_of c g) ch)

-- A core with the level of STB or ACK raised.
abbrev pub line_raised : Core → Group → Side → Core
line_raised c g s = record {
  word = c.word;
  a = c.a;
  b = c.b;
  c = record { latch = c.c.latch; outside = with_bit c.c.outside (line_pin g s) true };
  inte = c.inte;
}

-- The chip with that one cause of a low half altered, and nothing else: the enable set, the flag made right, the line raised, or the bus idle.
abbrev pub altered : Chip → Group → Side → Reason → Chip
altered c g s EnableOff = record { phase = c.phase; edition = c.edition; core = with_enables c.core (enabled c.core.inte g s true) }
altered c g s FlagWrong = record { phase = c.phase; edition = c.edition; core = with_channel c.core g s (righted s (channel_of c.core g s)) }
altered c g s LineLow = record { phase = c.phase; edition = c.edition; core = line_raised c.core g s }
altered c g s OwnCycle = record { phase = Idle; edition = c.edition; core = c.core }
altered c g s High = c

-- A half that is high: its channel asks for an interrupt, it is named so, and the pin view shows INTR high.
pub record HalfHigh (c : Chip) (g : Group) (s : Side) : Type 0 where
  pub asks : request_of c g s ≡ true
  pub named : reason_of c g s ≡ High
  pub shown : pin c (intr_pin g) ≡ true

-- The half would be high: with the cause that is given for it altered, and none behind that one seen, it is.
abbrev pub WouldBeHigh : Chip → Group → Side → Type 0
WouldBeHigh c g s = NoneSeen c g s (later (reason_of c g s)) → HalfHigh (altered c g s (reason_of c g s)) g s
