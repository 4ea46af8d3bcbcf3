-- The example's journal is trimmed as it says, on a chip of either edition: computed from the chip.
-- Rests on nothing.
use Rattle.std.proofs.Common.{◌≡◌, refl}
use Rattle.bits.specs.Bit.{bit_of, value_of}
use Rattle.bus.specs.Kinds.{is_kind, operands_of}
use Rattle.bus.specs.Refusals.{number_of}
use Rattle.bus.specs.Device.{step_in}
use Rattle.control.specs.Mode.{strobed_input, strobed_output, mode_of, input_of}
use Rattle.control.specs.Word.{control_of}
use Rattle.chip.specs.Moves.{after_offer, after_follow, after_hand_over, after_end_read, after_clear}
use Rattle.chip.specs.declared.Edition.{Edition}
use Rattle.chip.specs.declared.Edition.TheVariants.{Older, Newer}
use Rattle.chip.specs.ModeWord.{cleared_port, after_mode_word}
use Rattle.chip.specs.ControlWord.{after_control_word}
use Rattle.chip.specs.Read.{after_read_begins, after_read_ends}
use Rattle.chip.specs.Write.{after_write_ends}
use Rattle.chip.specs.Levels.{fallen, edged, after_levels_on_c, port_after_levels, after_levels}
use Rattle.chip.specs.Step.{step_of}
use Rattle.journal.specs.Words.{is_frame}
use Rattle.journal.specs.Same.{same_state}
use Rattle.journal.specs.Trim.{kept_from, trim_number, trim_answer, trimmed_words}
use Rattle.journallaws.specs.Example.{given, said}

pub trimmed_so : (ed : Edition) → given ed ≡ said
unfolding bit_of value_of is_kind operands_of number_of step_in strobed_input strobed_output mode_of input_of control_of after_offer after_follow after_hand_over after_end_read after_clear cleared_port after_mode_word after_control_word after_read_begins after_read_ends after_write_ends fallen edged after_levels_on_c port_after_levels after_levels step_of is_frame same_state kept_from trim_number trim_answer trimmed_words
trimmed_so Older = refl
trimmed_so Newer = refl
