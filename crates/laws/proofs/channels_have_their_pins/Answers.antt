-- The pins of the channels, and those that are free.
-- Rests on ChannelPins and PinsByWords.
use Rattle.std.proofs.Common.{ℕ}
use Rattle.control.specs.declared.Group.{Group}
use Rattle.chip.specs.declared.channel.Side.TheVariants.{Input, Output}
use Rattle.laws.specs.ChannelPins.{PinsUsed}
use Rattle.laws.proofs.ChannelPins.{line_role_lem, flag_role_lem, intr_role}
use Rattle.laws.proofs.PinsByWords.{pins_shown, free_pin}
use Rattle.laws.proofs.channels_have_their_pins.Goals as goal

pins_used : (w : ℕ) (g : Group) → PinsUsed w g
pins_used w g = record {
  stb = line_role_lem w g Input;
  ibf = flag_role_lem w g Input;
  ack = line_role_lem w g Output;
  obf = flag_role_lem w g Output;
  intr = intr_role w g;
}

pub returns : goal.returns
returns c = record { used = pins_used; shown = pins_shown; free = free_pin }
