-- With the other group's events or without them, a history is the same to a group.
-- Rests on Alone.
use Rattle.groups.proofs.Alone.{as_if_alone, bytes_as_if_alone}
use Rattle.groups.proofs.each_group_lives_as_if_alone.Goals as goal

pub returns : goal.returns
returns c = record { chip = as_if_alone; power_up = bytes_as_if_alone }
