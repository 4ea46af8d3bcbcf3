-- Each example of a read of control gives what it says: one theorem, which the checker computes.
-- Rests on nothing.
use Rattle.std.proofs.Common.{◌≡◌, refl}
use Rattle.bits.specs.Bit.{bit_of, value_of, with_bit}
use Rattle.bus.specs.Kinds.{is_kind}
use Rattle.bus.specs.Device.{step_in}
use Rattle.bus.specs.Refusals.{number_of}
use Rattle.control.specs.Mode.{mode_of, input_of, upper_input, lower_input, strobed_input, strobed_output, output_of}
use Rattle.control.specs.Word.{control_of}
use Rattle.control.specs.Role.{uses_of, free_role, role_of}
use Rattle.chip.specs.Channel.{flag_of}
use Rattle.chip.specs.Moves.{after_offer, after_follow, after_hand_over, after_end_read, after_clear}
use Rattle.chip.specs.Status.{request_of, intr_of}
use Rattle.chip.specs.ModeWord.{cleared_port, after_mode_word}
use Rattle.chip.specs.ControlWord.{pin_set, after_control_word}
use Rattle.chip.specs.Read.{after_read_begins, after_read_ends}
use Rattle.chip.specs.Write.{stored_by, latch_written, after_write_ends}
use Rattle.chip.specs.Levels.{fallen, edged, after_levels_on_c, port_after_levels, after_levels}
use Rattle.chip.specs.Reads.{read_port, read_lines, read_control, read_of}
use Rattle.chip.specs.Pins.{drives_port, pins_of_port, pins_of_lines, pins_of}
use Rattle.chip.specs.Step.{step_of}
use Rattle.laws.specs.ControlExamples.{examples, model_gives, list_gives}

pub as_said : model_gives examples ≡ list_gives examples
unfolding bit_of value_of with_bit mode_of input_of upper_input lower_input strobed_input strobed_output output_of control_of uses_of free_role role_of flag_of after_offer after_follow after_hand_over after_end_read after_clear request_of intr_of cleared_port after_mode_word pin_set after_control_word after_read_begins after_read_ends stored_by latch_written after_write_ends fallen edged after_levels_on_c port_after_levels after_levels read_port read_lines read_control read_of drives_port pins_of_port pins_of_lines pins_of number_of is_kind step_of step_in
as_said = refl
