-- What a run gives back, in plain words.
-- Rests on RunNumbers.
use Rattle.account.proofs.RunNumbers.{told_too_long, told_no_room, told_runs}
use Rattle.account.proofs.runs_are_numbered.Goals as goal

pub returns : goal.returns
returns c = λ text room. record {
  too_long = told_too_long 11 text room;
  no_room = told_no_room 11 text room;
  runs = told_runs 11 text room;
}
