-- The discipline in two of the examples, by the pins as the chip shows them: it can be kept, and it asks something. The checker computes
-- it.
-- Rests on nothing.
use Rattle.std.proofs.Common.{subst, List, [], ◌∷◌, ◌++◌, T}
use Rattle.bits.specs.Bit.{bit_of, value_of, with_bit}
use Rattle.bus.specs.Kinds.{is_kind}
use Rattle.bus.specs.Event.{Event}
use Rattle.bus.specs.Histories.{write, levels, read_from, cycle_end}
use Rattle.bus.specs.Device.{step_in}
use Rattle.bus.specs.Refusals.{number_of}
use Rattle.control.specs.declared.Group.{Group}
use Rattle.control.specs.declared.Group.TheVariants.{A}
use Rattle.control.specs.Mode.{mode_of, input_of, upper_input, lower_input, strobed_input, strobed_output, output_of}
use Rattle.control.specs.Word.{control_of}
use Rattle.control.specs.Role.{uses_of, free_role, role_of}
use Rattle.chip.specs.Channel.{flag_of}
use Rattle.chip.specs.Moves.{after_offer, after_follow, after_hand_over, after_end_read, after_clear}
use Rattle.chip.specs.declared.Edition.TheVariants.{Older}
use Rattle.chip.specs.declared.Chip.{Chip}
use Rattle.chip.specs.State.{all_high, power_up_with}
use Rattle.chip.specs.Status.{request_of, intr_of}
use Rattle.chip.specs.ModeWord.{cleared_port, after_mode_word}
use Rattle.chip.specs.ControlWord.{pin_set, after_control_word}
use Rattle.chip.specs.Read.{after_read_begins, after_read_ends}
use Rattle.chip.specs.Write.{stored_by, latch_written, after_write_ends}
use Rattle.chip.specs.Levels.{fallen, edged, after_levels_on_c, port_after_levels, after_levels}
use Rattle.chip.specs.Reads.{read_port, read_lines, read_of}
use Rattle.chip.specs.Pins.{drives_port, pins_of_port, pins_of_lines, pins_of}
use Rattle.chip.specs.Step.{step_of, stepped}
use Rattle.laws.specs.Marked.{strobe}
use Rattle.fates.specs.Surroundings.{Surroundings, at_power_up, surroundings_next, surroundings_over}
use Rattle.fates.specs.Promise.{run}
use Rattle.fates.specs.Examples.{lost_bale, two_digits}
use Rattle.fates.specs.Discipline.{Disciplined}
use Rattle.fates.specs.Kept.{KeepsTo}

pub two_digits_disciplined : KeepsTo two_digits
unfolding bit_of value_of with_bit mode_of input_of upper_input lower_input strobed_input strobed_output output_of control_of uses_of free_role role_of flag_of after_offer after_follow after_hand_over after_end_read after_clear request_of intr_of cleared_port after_mode_word pin_set after_control_word after_read_begins after_read_ends stored_by latch_written after_write_ends fallen edged after_levels_on_c port_after_levels after_levels read_port read_lines read_of drives_port pins_of_port pins_of_lines pins_of number_of is_kind step_of step_in
two_digits_disciplined = search

-- What keeps to the discipline keeps to it from any of its events on.
kept_from : (g : Group) (a : Surroundings) (c : Chip) (before later : List Event) → Disciplined g a c (before ++ later)
    → Disciplined g (surroundings_over a before) (run c before) later
kept_from g a c [] later kept = kept
kept_from g a c (e ∷ before) later kept = kept_from g (surroundings_next a e) (stepped c e).state before later kept.1

-- The second digit of the lost bale comes while IBF is high: its levels come first, and then STB falls.
abbrev up_to_the_fall : List Event
up_to_the_fall = write 3 0xb0 ++ strobe 0x41 ++ read_from 0 ++ levels 0 0x42

pub lost_bale_undisciplined : ¬ KeepsTo lost_bale
unfolding bit_of value_of with_bit mode_of input_of upper_input lower_input strobed_input strobed_output output_of control_of uses_of free_role role_of flag_of after_offer after_follow after_hand_over after_end_read after_clear request_of intr_of cleared_port after_mode_word pin_set after_control_word after_read_begins after_read_ends stored_by latch_written after_write_ends fallen edged after_levels_on_c port_after_levels after_levels read_port read_lines read_of drives_port pins_of_port pins_of_lines pins_of number_of is_kind step_of step_in
lost_bale_undisciplined kept =
    let falls = kept_from A (at_power_up Older all_high) (power_up_with all_high) up_to_the_fall (levels 2 0xef ++ levels 2 0xff ++ cycle_end) kept in
    subst T falls.0 tt
