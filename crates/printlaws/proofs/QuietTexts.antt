-- What is said of the interrupts after some scripts, computed.
-- Rests on nothing.
use Rattle.std.proofs.Common.{◌≡◌, refl}
use Rattle.std.specs.Fmt.{digits}
use Rattle.bits.specs.Bit.{bit_of, value_of, with_bit, blend_of}
use Rattle.bus.specs.Kinds.{is_kind, operands_of}
use Rattle.bus.specs.Refusals.{number_of}
use Rattle.bus.specs.Device.{step_in}
use Rattle.control.specs.Mode.{mode_of, input_of, output_of, lower_input, upper_input, strobed_input, strobed_output}
use Rattle.control.specs.Role.{uses_of, free_role, role_of}
use Rattle.control.specs.Word.{control_of}
use Rattle.text.specs.Digits.{digit_value, digit_code, pair_value}
use Rattle.text.specs.Lines.{lines_of}
use Rattle.text.specs.Frames.{leading_byte, is_frame, frame_of, frame_in}
use Rattle.text.specs.Quoted.{answered, listed}
use Rattle.chip.specs.Channel.{flag_of}
use Rattle.chip.specs.Moves.{after_offer, after_follow, after_hand_over, after_end_read, after_clear}
use Rattle.chip.specs.ModeWord.{cleared_port, after_mode_word}
use Rattle.chip.specs.ControlWord.{pin_set, after_control_word}
use Rattle.chip.specs.Levels.{fallen, edged, after_levels_on_c, port_after_levels, after_levels}
use Rattle.chip.specs.Read.{after_read_begins, after_read_ends}
use Rattle.chip.specs.Reads.{read_port, read_of}
use Rattle.chip.specs.Write.{stored_by, latch_written, after_write_ends}
use Rattle.chip.specs.Reasons.{reason_of, explained_in}
use Rattle.script.specs.Answers.{acted_in}
use Rattle.prints.specs.Quiet.{half_line, group_lines, refused_line, said_of_left, printed_quiet}
use Rattle.printlaws.specs.QuietTexts.{quiet_texts}

pub quiet_texts_printed : answered printed_quiet quiet_texts ≡ listed quiet_texts
unfolding digits bit_of value_of with_bit blend_of is_kind operands_of number_of step_in mode_of input_of output_of lower_input upper_input strobed_input strobed_output uses_of free_role role_of control_of digit_value digit_code pair_value lines_of leading_byte is_frame frame_of frame_in flag_of after_offer after_follow after_hand_over after_end_read after_clear cleared_port after_mode_word pin_set after_control_word fallen edged after_levels_on_c port_after_levels after_levels after_read_begins after_read_ends read_port read_of stored_by latch_written after_write_ends reason_of explained_in acted_in half_line group_lines refused_line said_of_left printed_quiet
quiet_texts_printed = refl
