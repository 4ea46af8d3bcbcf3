-- What a mode word leaves, whatever the last one was, and the roles of port C under the word of a reset ("State", "Mode words").
-- Rests on bits' Tested, control's PinByMasks, chip's ConditionsLeft, SettingsAfter and Ends.
use Rattle.std.proofs.Common.{◌≡◌, ◌∙◌, ap, true, ℕ, ◌<◌}
use Rattle.bits.specs.Bit.{bit_of}
use Rattle.bits.proofs.Tested.{numbers}
use Rattle.bus.specs.declared.Phase.TheVariants.{Writing}
use Rattle.control.specs.Mode.{mode_of, input_of, upper_input, lower_input}
use Rattle.control.specs.Role.{input, number, uses_of, free_role, role_of}
use Rattle.control.proofs.PinByMasks.{number_one}
use Rattle.chip.proofs.ConditionsLeft.{clear_empties, clear_zeroes, clear_counts}
use Rattle.chip.specs.declared.Core.{Core}
use Rattle.chip.specs.declared.Chip.{Chip}
use Rattle.chip.specs.State.{channel_of}
use Rattle.chip.specs.ModeWord.{after_mode_word}
use Rattle.chip.proofs.SettingsAfter.{mode_word_channel, mode_word_word, mode_word_ports, mode_word_lines, mode_word_latch, mode_word_enable, mode_word_lem}
use Rattle.chip.specs.Write.{after_write_ends}
use Rattle.chip.specs.Step.{step_of}
use Rattle.chip.proofs.Ends.{write_ends}
use Rattle.laws.specs.Anew.{Anew}

pub anew : (c : Core) (w : ℕ) → Anew c w (after_mode_word c w)
anew c w = record {
  word = mode_word_word c w;
  empty = λ g s. ap (λ ch. ch.fill) (mode_word_channel c w g s) ∙ clear_empties (channel_of c g s);
  latches = λ g s. ap (λ ch. ch.latch) (mode_word_channel c w g s) ∙ clear_zeroes (channel_of c g s);
  lines = mode_word_latch c w;
  enables = mode_word_enable c w;
  tallies = λ g s. ap (λ ch. ch.tally) (mode_word_channel c w g s) ∙ clear_counts (channel_of c g s);
  levels = mode_word_ports c w;
  lines_levels = mode_word_lines c w;
}

-- A mode word, whatever the last one was.
pub mode_write : (c : Core) (w : ℕ) → bit_of w 7 ≡ true → after_write_ends c 3 w ≡ after_mode_word c w
unfolding after_write_ends
mode_write c w set = mode_word_lem c w set

pub word_renews : (c : Chip) (w x d : ℕ) → c.phase ≡ Writing 3 w → bit_of w 7 ≡ true → Anew c.core w (step_of c 2 x d).state.core
word_renews c w x d phase set = rw (write_ends c 3 w x d phase, mode_write c.core w set) (anew c.core w)

-- Under the word of a reset every pin of port C is an input.
pub reset_roles : (n : ℕ) → n < 8 → role_of 0x9b n ≡ input
unfolding role_of uses_of free_role mode_of input_of upper_input lower_input bit_of
reset_roles n h = number_one (role_of 0x9b n) input (numbers 8 (λ n. number (role_of 0x9b n)) (λ n. 0) tt n h)
