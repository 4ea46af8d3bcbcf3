-- The chip in some of the examples, and after a mode word that finds STB low: what it counts and what it shows there, computed by the
-- checker.
-- Rests on nothing.
use Rattle.std.proofs.Common.{◌≡◌, refl, ◌++◌}
use Rattle.bits.specs.Bit.{bit_of, value_of, with_bit}
use Rattle.bus.specs.Kinds.{is_kind}
use Rattle.bus.specs.Event.{event}
use Rattle.bus.specs.Histories.{write, levels}
use Rattle.bus.specs.Device.{step_in}
use Rattle.bus.specs.Refusals.{number_of}
use Rattle.control.specs.declared.Group.TheVariants.{A}
use Rattle.control.specs.Mode.{mode_of, input_of, upper_input, lower_input, strobed_input, strobed_output, output_of}
use Rattle.control.specs.Word.{control_of}
use Rattle.control.specs.Role.{uses_of, free_role, role_of}
use Rattle.chip.specs.declared.channel.Side.TheVariants.{Input, Output}
use Rattle.chip.specs.Channel.{flag_of}
use Rattle.chip.specs.Moves.{after_offer, after_follow, after_hand_over, after_end_read, after_clear}
use Rattle.chip.specs.State.{levels_by, all_high, power_up_with}
use Rattle.chip.specs.Status.{request_of, intr_of}
use Rattle.chip.specs.ModeWord.{cleared_port, after_mode_word}
use Rattle.chip.specs.ControlWord.{pin_set, after_control_word}
use Rattle.chip.specs.Read.{after_read_begins, after_read_ends}
use Rattle.chip.specs.Write.{stored_by, latch_written, after_write_ends}
use Rattle.chip.specs.Levels.{fallen, edged, after_levels_on_c, port_after_levels, after_levels}
use Rattle.chip.specs.Reads.{read_port, read_lines, read_of}
use Rattle.chip.specs.Pins.{drives_port, pins_of_port, pins_of_lines, pins_of}
use Rattle.chip.specs.Step.{step_of}
use Rattle.fates.specs.Promise.{Shows, run, tallies}
use Rattle.fates.specs.Examples.{lost_bale, in_and_written, too_late, bale_tally, before_ack}

-- The lost digit is counted as swallowed.
pub bale_counted : tallies A Input (power_up_with all_high) lost_bale ≡ bale_tally
unfolding bit_of value_of with_bit mode_of input_of upper_input lower_input strobed_input strobed_output output_of control_of uses_of free_role role_of flag_of after_offer after_follow after_hand_over after_end_read after_clear request_of intr_of cleared_port after_mode_word pin_set after_control_word after_read_begins after_read_ends stored_by latch_written after_write_ends fallen edged after_levels_on_c port_after_levels after_levels read_port read_lines read_of drives_port pins_of_port pins_of_lines pins_of number_of is_kind step_of step_in
bale_counted = refl

-- The byte written in mode 2 does not show before ACK falls.
pub not_before : pins_of (run (power_up_with all_high) in_and_written) 0 ≡ before_ack
unfolding bit_of value_of with_bit mode_of input_of upper_input lower_input strobed_input strobed_output output_of control_of uses_of free_role role_of flag_of after_offer after_follow after_hand_over after_end_read after_clear request_of intr_of cleared_port after_mode_word pin_set after_control_word after_read_begins after_read_ends stored_by latch_written after_write_ends fallen edged after_levels_on_c port_after_levels after_levels read_port read_lines read_of drives_port pins_of_port pins_of_lines pins_of number_of is_kind step_of step_in
not_before = refl

-- It shows as ACK falls.
pub ack_shows : Shows A Output (run (power_up_with all_high) in_and_written) (event 5 2 0xbf) 0x55
unfolding bit_of value_of with_bit mode_of input_of upper_input lower_input strobed_input strobed_output output_of control_of uses_of free_role role_of flag_of after_offer after_follow after_hand_over after_end_read after_clear request_of intr_of cleared_port after_mode_word pin_set after_control_word after_read_begins after_read_ends stored_by latch_written after_write_ends fallen edged after_levels_on_c port_after_levels after_levels read_port read_lines read_of drives_port pins_of_port pins_of_lines pins_of number_of is_kind step_of step_in
ack_shows = (refl, refl)

-- Levels that came too late to be a byte's are read all the same, by a read that finds none.
pub late_levels_read : Shows A Input (run (power_up_with all_high) too_late) (event 1 0 0) 0x43
unfolding bit_of value_of with_bit mode_of input_of upper_input lower_input strobed_input strobed_output output_of control_of uses_of free_role role_of flag_of after_offer after_follow after_hand_over after_end_read after_clear request_of intr_of cleared_port after_mode_word pin_set after_control_word after_read_begins after_read_ends stored_by latch_written after_write_ends fallen edged after_levels_on_c port_after_levels after_levels read_port read_lines read_of drives_port pins_of_port pins_of_lines pins_of number_of is_kind step_of step_in
late_levels_read = (refl, refl)

-- A mode word that finds STB low leaves 00 in the latch, and the levels that stood there already, put once more, go through to it.
pub zero_at_first : Shows A Input (run (power_up_with (levels_by 0x41 0 0)) (write 3 0xb0)) (event 1 0 0) 0
unfolding bit_of value_of with_bit mode_of input_of upper_input lower_input strobed_input strobed_output output_of control_of uses_of free_role role_of flag_of after_offer after_follow after_hand_over after_end_read after_clear request_of intr_of cleared_port after_mode_word pin_set after_control_word after_read_begins after_read_ends stored_by latch_written after_write_ends fallen edged after_levels_on_c port_after_levels after_levels read_port read_lines read_of drives_port pins_of_port pins_of_lines pins_of number_of is_kind step_of step_in
zero_at_first = (refl, refl)

pub same_levels_go_through : Shows A Input (run (power_up_with (levels_by 0x41 0 0)) (write 3 0xb0 ++ levels 0 0x41)) (event 1 0 0) 0x41
unfolding bit_of value_of with_bit mode_of input_of upper_input lower_input strobed_input strobed_output output_of control_of uses_of free_role role_of flag_of after_offer after_follow after_hand_over after_end_read after_clear request_of intr_of cleared_port after_mode_word pin_set after_control_word after_read_begins after_read_ends stored_by latch_written after_write_ends fallen edged after_levels_on_c port_after_levels after_levels read_port read_lines read_of drives_port pins_of_port pins_of_lines pins_of number_of is_kind step_of step_in
same_levels_go_through = (refl, refl)
