-- A refused run, and one of no text, leave the output and the device.
-- Rests on RefusedRuns, and on script's Outcome.
use Rattle.script.proofs.Outcome.{empty_text}
use Rattle.account.proofs.RefusedRuns.{refused_by_length}
use Rattle.account.proofs.refused_and_empty_runs_leave_all.Goals as goal

pub returns : goal.returns
returns g c = record {
  refused = refused_by_length;
  no_lines = λ a s out. (empty_text a s out).0;
  empty = λ a s out. let left = empty_text a s out in record { output = left.1; subject = left.2 };
}
