-- The other group's events leave a group as it was.
-- Rests on Apart and LeftAlone.
use Rattle.groups.proofs.Apart.{left_by_history}
use Rattle.groups.proofs.LeftAlone.{left_alone}
use Rattle.groups.proofs.each_group_leaves_the_other_alone.Goals as goal

pub returns : goal.returns
returns c = record { history = left_by_history; doings = left_alone }
