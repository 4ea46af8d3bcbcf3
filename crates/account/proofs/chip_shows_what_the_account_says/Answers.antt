-- What is seen of a chip is what the account says, and so are the answers to a script.
-- Rests on Account and Script.
use Rattle.account.proofs.Account.{account, account_from}
use Rattle.account.proofs.Script.{answered_by}
use Rattle.account.proofs.chip_shows_what_the_account_says.Goals as goal

pub returns : goal.returns
returns c = record { power_up = account; any_chip = account_from; script = answered_by }
