-- Port A in mode 2, which is bit 6: driven exactly while ACK is low, when it shows its output latch; read as its input latch ("Reads and pins").
-- Rests on PlainBits, ChannelPins, OwnPort, control's ModeTwo, and chip's Strobed.
use Rattle.std.proofs.Common.{◌≡◌, ◌∙◌, refl, Bool, true, false, cond, not}
use Rattle.bits.specs.Bit.{bit_of}
use Rattle.control.specs.declared.Group.TheVariants.{A}
use Rattle.control.specs.Mode.{mode_of}
use Rattle.control.proofs.ModeTwo.{mode_2_both_ways}
use Rattle.chip.specs.declared.channel.Side.TheVariants.{Output}
use Rattle.chip.specs.declared.Chip.{Chip}
use Rattle.bus.specs.declared.Pins.{Pins}
use Rattle.chip.specs.Pins.{drives_port, pins_of_port, pins_of}
use Rattle.chip.proofs.Strobed.{strobed_reads}
use Rattle.laws.specs.Ports.{GivesAndTakes}
use Rattle.laws.proofs.PlainBits.{mode_by_bits}
use Rattle.laws.proofs.ChannelPins.{line_pin_lem}
use Rattle.laws.proofs.OwnPort.{own_read}

pub mode_2_drives : (c : Chip) → bit_of c.core.word 6 ≡ true → GivesAndTakes c
unfolding pins_of pins_of_port drives_port
mode_2_drives c six =
    let w = c.core.word in
    let two : mode_of w A ≡ 2 = mode_by_bits w A ∙ rw (six) in
    let both = mode_2_both_ways w A two in
    record {
      shows = rw (two, line_pin_lem c A Output both.giving) (go (bit_of c.core.c.outside 6));
      answers = own_read c 0 A refl ∙ strobed_reads w A c.core.a both.taking;
    }
  where
    go : (high : Bool)
        → ◌≡◌ {A = Pins} (record { levels = cond (not high) c.core.a.output.latch c.core.a.outside; driven = cond (not high) 0xff 0 })
        (cond high (record { levels = c.core.a.outside; driven = 0 }) (record { levels = c.core.a.output.latch; driven = 0xff }))
    go true = refl
    go false = refl
