-- Over every history, from every chip and from every power-up, all that can be seen of the chip is what the account says.
-- Rests on Agrees, Opened and Accounted.
use Rattle.std.proofs.Common.{List}
use Rattle.bus.specs.Event.{Event}
use Rattle.chip.specs.declared.Edition.{Edition}
use Rattle.chip.specs.declared.Chip.{Chip}
use Rattle.chip.specs.declared.Levels.{Levels}
use Rattle.chip.specs.State.{power_up_as}
use Rattle.account.specs.Account.{opened}
use Rattle.account.specs.Promise.{account_of, Accounted}
use Rattle.account.proofs.Agrees.{agrees_of}
use Rattle.account.proofs.Opened.{agrees_opened}
use Rattle.account.proofs.Accounted.{accounted}

-- From any chip, reached by a history or not.
pub account_from : (c : Chip) (es : List Event) → Accounted c (account_of c) es
account_from c es = accounted c (account_of c) es (agrees_of c)

-- From power-up, of either edition and under any levels.
pub account : (ed : Edition) (l : Levels) (es : List Event) → Accounted (power_up_as ed l) (opened ed l) es
account ed l es = accounted (power_up_as ed l) (opened ed l) es (agrees_opened ed l)
