-- What is printed of some scripts of racks, computed.
-- Rests on nothing.
use Rattle.std.proofs.Common.{◌≡◌, refl}
use Rattle.bits.specs.Bit.{bit_of, value_of, with_bit, blend_of}
use Rattle.bus.specs.Kinds.{is_kind, operands_of}
use Rattle.bus.specs.Refusals.{number_of}
use Rattle.bus.specs.Device.{step_in}
use Rattle.control.specs.Mode.{mode_of, input_of, output_of, lower_input, upper_input, strobed_input, strobed_output}
use Rattle.control.specs.Role.{uses_of, free_role, role_of}
use Rattle.chip.specs.Moves.{after_clear}
use Rattle.control.specs.Word.{control_of}
use Rattle.text.specs.Digits.{digit_value, digit_code, pair_value}
use Rattle.text.specs.Lines.{lines_of}
use Rattle.text.specs.Frames.{leading_byte}
use Rattle.text.specs.Quoted.{answered, listed}
use Rattle.chip.specs.ModeWord.{cleared_port, after_mode_word}
use Rattle.chip.specs.ControlWord.{after_control_word}
use Rattle.chip.specs.Levels.{edged, after_levels_on_c, port_after_levels, after_levels}
use Rattle.chip.specs.Pins.{drives_port, pins_of_port, pins_of_lines, pins_of}
use Rattle.chip.specs.Read.{after_read_begins, after_read_ends}
use Rattle.chip.specs.Reads.{read_port, read_of}
use Rattle.chip.specs.Write.{stored_by, latch_written, after_write_ends}
use Rattle.rack.specs.Bases.{is_base, is_among, are_bases, makes_rack}
use Rattle.rack.specs.State.{chip_at, rack_of, built_of}
use Rattle.rack.specs.Step.{step_of}
use Rattle.rack.specs.Targets.{answers_at, target_from, is_place, target_at, target_of}
use Rattle.rack.specs.Views.{card_pins}
use Rattle.script.specs.Answers.{line_text, levels_from, answers_from}
use Rattle.script.specs.RackAnswers.{acted}
use Rattle.script.specs.RackBases.{base_of, leading_base, bases_of_line, rack_of_line, rack_for, further_lines}
use Rattle.script.specs.RackFrames.{operand_bytes, is_rack_frame, event_of, rack_frame_of, rack_frame_in}
use Rattle.prints.specs.Printed.{printed_of_rack}
use Rattle.printlaws.specs.RackTexts.{rack_texts}

pub rack_texts_printed : answered printed_of_rack rack_texts ≡ listed rack_texts
unfolding control_of bit_of value_of with_bit blend_of is_kind operands_of number_of step_in mode_of input_of output_of lower_input upper_input strobed_input strobed_output uses_of free_role role_of after_clear digit_value digit_code pair_value lines_of leading_byte cleared_port after_mode_word after_control_word edged after_levels_on_c port_after_levels after_levels drives_port pins_of_port pins_of_lines pins_of after_read_begins after_read_ends read_port read_of stored_by latch_written after_write_ends is_base is_among are_bases makes_rack chip_at rack_of built_of step_of answers_at target_from is_place target_at target_of card_pins line_text levels_from answers_from acted base_of leading_base bases_of_line rack_of_line rack_for further_lines operand_bytes is_rack_frame event_of rack_frame_of rack_frame_in printed_of_rack
rack_texts_printed = refl
