-- An accepted run writes the answers, and nothing behind them.
-- Rests on AcceptedRuns.
use Rattle.account.proofs.AcceptedRuns.{writes_answers}
use Rattle.account.proofs.accepted_runs_write_the_answers.Goals as goal

pub returns : goal.returns
returns g c = writes_answers
