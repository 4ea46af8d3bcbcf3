-- What belongs to no group, what it changes, and how many examples there are.
-- Rests on Excluded.
use Rattle.std.proofs.Common.{refl}
use Rattle.groups.proofs.Excluded.{each_changes, none_is_of}
use Rattle.groups.proofs.some_events_belong_to_no_group.Goals as goal

pub returns : goal.returns
returns c = record { changes = each_changes; eight = refl; no_groups = none_is_of; five = refl }
