-- What a run tells and writes.
-- Rests on Running and script's RackRoom.
use Rattle.script.proofs.RackRoom.{most_room_is}
use Rattle.racklaws.proofs.Running.{refuses, writes, enough}
use Rattle.racklaws.proofs.rack_runs_write_the_answers.Goals as goal

pub returns : goal.returns
returns c = record {
  refused = refuses;
  accepted = λ text out fits. writes text fits.named fits.short out fits.room;
  most_room = most_room_is;
  enough = enough;
}
