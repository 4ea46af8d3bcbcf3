-- A group is in the way where the step refuses with 4 what it would accept.
-- Rests on InTheWay.
use Rattle.groups.proofs.InTheWay.{in_the_way_lem, out_of_the_way_lem}
use Rattle.groups.proofs.in_the_way_is_refused_with_4.Goals as goal

pub returns : goal.returns
returns c = record { event = in_the_way_lem; history = out_of_the_way_lem }
