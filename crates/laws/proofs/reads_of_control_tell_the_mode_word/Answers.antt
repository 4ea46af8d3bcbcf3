-- Reads of control, in every state.
-- Rests on ControlReads.
use Rattle.laws.proofs.ControlReads.{control_read_lem, control_read_ends, newer_never_three}
use Rattle.laws.proofs.reads_of_control_tell_the_mode_word.Goals as goal

pub returns : goal.returns
returns c = record { read = control_read_lem; ends = control_read_ends; never_three = newer_never_three }
