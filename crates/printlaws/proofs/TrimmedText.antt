-- What is printed of a script that is trimmed, and said of lines that are no frames, computed.
-- Rests on nothing.
use Rattle.std.proofs.Common.{◌≡◌, length, refl}
use mathlib.Core.List.{flat_map}
use Rattle.std.specs.Fmt.{digits as number_digits}
use Rattle.bits.specs.Bit.{bit_of, value_of, with_bit, blend_of}
use Rattle.bus.specs.Kinds.{is_kind, operands_of}
use Rattle.bus.specs.Refusals.{number_of}
use Rattle.bus.specs.Device.{step_in}
use Rattle.control.specs.Mode.{mode_of, input_of, output_of, lower_input, upper_input, strobed_input, strobed_output}
use Rattle.control.specs.Role.{uses_of, free_role, role_of}
use Rattle.control.specs.Word.{control_of}
use Rattle.text.specs.Digits.{digit_value, digit_code, pair_value}
use Rattle.text.specs.Lines.{lines_of}
use Rattle.text.specs.Frames.{leading_byte, is_frame, frame_of, frame_in}
use Rattle.text.specs.Quoted.{codes, answered, listed}
use Rattle.text.specs.Written.{written_out}
use Rattle.chip.specs.Moves.{after_offer, after_follow, after_hand_over, after_end_read, after_clear}
use Rattle.chip.specs.ModeWord.{cleared_port, after_mode_word}
use Rattle.chip.specs.ControlWord.{after_control_word}
use Rattle.chip.specs.Levels.{fallen, edged, after_levels_on_c, port_after_levels, after_levels}
use Rattle.chip.specs.Read.{after_read_begins, after_read_ends}
use Rattle.chip.specs.Reads.{read_port, read_of}
use Rattle.chip.specs.Step.{step_of}
use Rattle.chip.specs.Write.{stored_by, latch_written, after_write_ends}
use Rattle.journal.specs.Words.{is_frame as is_word}
use Rattle.journal.specs.Same.{same_state}
use Rattle.journal.specs.Trim.{kept_from}
use Rattle.prints.specs.Trimmed.{word_line, printed_trimmed}
use Rattle.prints.specs.Strays.{strays_of, stray_line, more_line, said_of_strays}
use Rattle.printlaws.specs.Trimmed.{a_script, stray_texts}

pub computed : (printed_trimmed (codes a_script.script) ≡ codes a_script.answers) × (length (lines_of (codes a_script.script)) ≡ 12)
    × (answered said_of_strays stray_texts ≡ listed stray_texts)
unfolding flat_map bit_of value_of with_bit blend_of is_kind operands_of number_of step_in mode_of input_of output_of lower_input upper_input strobed_input strobed_output uses_of free_role role_of control_of digit_value digit_code pair_value lines_of leading_byte is_frame frame_of frame_in written_out after_offer after_follow after_hand_over after_end_read after_clear cleared_port after_mode_word after_control_word fallen edged after_levels_on_c port_after_levels after_levels after_read_begins after_read_ends read_port read_of step_of stored_by latch_written after_write_ends is_word same_state kept_from word_line printed_trimmed number_digits strays_of stray_line more_line said_of_strays
computed = (refl, refl, refl)
