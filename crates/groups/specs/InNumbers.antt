-- What belongs to the group of a scale and to that of a printer at one moment, in numbers ("Two groups").
use Rattle.std.specs.Prelude.{true, false, List, ◌++◌}
use Rattle.bus.specs.Event.{Event}
use Rattle.bus.specs.Histories.{write, levels}
use Rattle.chip.specs.declared.channel.Fill.TheVariants.{Waiting}
use Rattle.chip.specs.declared.channel.Tally.{Tally}
use Rattle.chip.specs.declared.channel.Channel.{Channel}
use Rattle.chip.specs.State.{no_byte}
use Rattle.chip.specs.declared.reasons.Reason.TheVariants.{EnableOff, High}
use Rattle.chip.specs.declared.reasons.Explained.TheVariants.{InputHalf, OutputHalf}
use Rattle.laws.specs.Marked.{strobe}
use Rattle.groups.specs.Belongings.{Belongings}

-- Port A takes and port B gives, each with a handshake; pins 7 and 6 of port C are free outputs. Pin 7 is set, and so is INTE of A's input.
-- The digit 41 is strobed in and waits, 42 stands on port A's lines since; 33 is written and waits.
abbrev pub moment : List Event
moment = write 3 0xb4 ++ write 3 0x0f ++ write 3 0x09 ++ strobe 0x41 ++ levels 0 0x42 ++ write 1 0x33

-- One byte was offered, and waits.
abbrev pub one_offered : Tally
one_offered = record { offered = 1; handed = 0; overwritten = 0; swallowed = 0; cleared = 0; planted = 0; struck = 0 }

abbrev pub scale_channel : Channel
scale_channel = record { fill = Waiting; latch = 0x41; tally = one_offered }

abbrev pub printer_channel : Channel
printer_channel = record { fill = Waiting; latch = 0x33; tally = one_offered }

-- Group A: pin 7, IBF, STB and INTR are high, and pin 6 is low. All but STB are driven. In the place of STB a read tells INTE, which is set.
abbrev pub scale_has : Belongings
scale_has = record {
  input = scale_channel;
  output = no_byte;
  input_enabled = true;
  output_enabled = false;
  interrupt = InputHalf High;
  port = record { levels = 0x42; driven = 0x00 };
  port_read = 0x41;
  port_outside = 0x42;
  levels = 0xb8;
  driven = 0xe8;
  told = 0xb8;
  latch = 0x80;
  outside = 0xf8;
}

-- Group B: ACK is high, and OBF and INTR are low, the last since INTE B is not set. All but ACK are driven. In the place of ACK a read tells
-- INTE B.
abbrev pub printer_has : Belongings
printer_has = record {
  input = no_byte;
  output = printer_channel;
  input_enabled = false;
  output_enabled = false;
  interrupt = OutputHalf EnableOff;
  port = record { levels = 0x33; driven = 0xff };
  port_read = 0x33;
  port_outside = 0xff;
  levels = 0x04;
  driven = 0x03;
  told = 0x00;
  latch = 0x00;
  outside = 0x07;
}
