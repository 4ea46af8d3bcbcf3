-- What the discipline does not ask: two histories that keep to it, and lose nothing ("Discipline").
use Rattle.std.specs.Prelude.{◌≡◌, true, false, List, [], ◌∷◌, ◌++◌}
use Rattle.bits.specs.Bit.{bit_of}
use Rattle.bus.specs.Event.{Event}
use Rattle.bus.specs.Histories.{write, levels, read_from, cycle_end}
use Rattle.control.specs.declared.Group.TheVariants.{A}
use Rattle.chip.specs.declared.channel.Side.TheVariants.{Input}
use Rattle.chip.specs.declared.channel.Tally.{Tally}
use Rattle.chip.specs.declared.Edition.TheVariants.{Older}
use Rattle.chip.specs.declared.Chip.{Chip}
use Rattle.chip.specs.State.{all_high, power_up_with}
use Rattle.chip.specs.Pins.{pins_of}
use Rattle.fates.specs.Surroundings.{at_power_up}
use Rattle.fates.specs.Bytes.{handed_over, bytes_of}
use Rattle.fates.specs.Examples.{◌at◌is◌at◌}
use Rattle.fates.specs.Promise.{run, tallies}
use Rattle.fates.specs.Discipline.{Disciplined}

-- From a power-up with every line high.
abbrev pub after : List Event → Chip
after es = run (power_up_with all_high) es

-- STB falls before the digit has settled, and IBF is high. 41 comes onto port A's lines then, while STB is low. The digit is read once STB is high.
abbrev pub strobed_early : List Event
strobed_early = write 3 0xb0 ++ levels 0 0x40 ++ levels 2 0xef

abbrev pub settles_late : List Event
settles_late = strobed_early ++ levels 0 0x41 ++ levels 2 0xff ++ read_from 0 ++ cycle_end

-- Port A is an input in mode 0, and pin 5, which would be IBF, is low. It is read twice, and STB would fall in between.
abbrev pub pin_5_low : List Event
pin_5_low = write 3 0x9b ++ levels 2 0xdf

abbrev pub read_in_mode_0 : List Event
read_in_mode_0 = pin_5_low ++ read_from 0 ++ cycle_end ++ levels 2 0xcf ++ read_from 0 ++ cycle_end

-- What is counted: one byte was offered and handed over, or none was offered.
abbrev pub one_handed_over : Tally
one_handed_over = record { offered = 1; handed = 1; overwritten = 0; swallowed = 0; cleared = 0; planted = 0; struck = 0 }

abbrev pub none_offered : Tally
none_offered = record { offered = 0; handed = 0; overwritten = 0; swallowed = 0; cleared = 0; planted = 0; struck = 0 }

-- In the one levels come onto port A while STB is low and IBF is high, and the byte that was offered has them. In the other reads begin in mode
-- 0 while pin 5 is low, and there are no bytes. Both keep to the discipline. No byte is lost, by the events and by the chip's tallies.
pub record AsksNoMore : Type 0 where
  pub ibf_is_high : bit_of (pins_of (after strobed_early) 2).levels 5 ≡ true
  pub late_levels_kept : Disciplined A (at_power_up Older all_high) (power_up_with all_high) settles_late
  pub late_bytes : bytes_of A Input Older all_high settles_late ≡ (0x41 at 4 is handed_over at 7) ∷ []
  pub late_tally : tallies A Input (power_up_with all_high) settles_late ≡ one_handed_over
  pub pin_5_is_low : bit_of (pins_of (after pin_5_low) 2).levels 5 ≡ false
  pub plain_reads_kept : Disciplined A (at_power_up Older all_high) (power_up_with all_high) read_in_mode_0
  pub plain_bytes : bytes_of A Input Older all_high read_in_mode_0 ≡ []
  pub plain_tally : tallies A Input (power_up_with all_high) read_in_mode_0 ≡ none_offered
