-- What is driven without a handshake.
-- Rests on Chart.
use Rattle.laws.proofs.Chart.{as_charted}
use Rattle.laws.proofs.the_mode_0_chart_says_what_is_driven.Goals as goal

pub returns : goal.returns
returns c = as_charted
