-- What is printed of a text that is no longer than a script may be: what the account says.
-- Rests on account's Script and Texts, and on laws8355's Script.
use Rattle.std.proofs.Common.{◌≡◌, ◌≤◌, ℕ, List, length, le-ltb}
use Rattle.chip.specs.declared.Edition.TheVariants.{Older, Newer}
use Rattle.text.specs.History.{history_of}
use Rattle.text.specs.Quoted.{answered, listed}
use Rattle.account.proofs.Script as account
use Rattle.account.proofs.Texts as texts
use Rattle.laws8355.proofs.Script as ports
use Rattle.prints.specs.declared.Device.{Device}
use Rattle.prints.specs.declared.Device.TheVariants.{I8255A, I82C55A, I8355}
use Rattle.prints.specs.Printed.{printed, printed_by}
use Rattle.printlaws.specs.ByAccount.{accounted_lines, listed_scripts}

pub by_account : (device : Device) (text : List ℕ) → length text ≤ 4096 → printed device text ≡ accounted_lines device (history_of text)
unfolding printed printed_by
by_account I8255A text short = rw (le-ltb 4096 (length text) short) (account.answered_by Older text)
by_account I82C55A text short = rw (le-ltb 4096 (length text) short) (account.answered_by Newer text)
by_account I8355 text short = rw (le-ltb 4096 (length text) short) (ports.answered_by text)

pub as_listed : (device : Device) → answered (printed device) (listed_scripts device) ≡ listed (listed_scripts device)
unfolding printed printed_by
as_listed I8255A = texts.texts_answered Older
as_listed I82C55A = texts.texts_answered Newer
as_listed I8355 = ports.texts_answered
