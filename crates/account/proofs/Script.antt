-- The answers to every script are the account's.
-- Rests on Opened and Lines, and on fates' ScriptRun.
use Rattle.std.proofs.Common.{◌≡◌, ◌∙◌, List, ℕ}
use Rattle.chip.specs.declared.Edition.{Edition}
use Rattle.chip.specs.State.{all_high, power_up_as}
use Rattle.chip.specs.Pins.{pins_of}
use Rattle.chip.specs.Step.{device}
use Rattle.text.specs.History.{history_of}
use Rattle.script.specs.Answers.{by_device, answers_of}
use Rattle.fates.proofs.ScriptRun.{answered_as_history}
use Rattle.account.specs.Account.{opened}
use Rattle.account.specs.Script.{lines_by}
use Rattle.account.proofs.Opened.{agrees_opened}
use Rattle.account.proofs.Lines.{lines_are}

pub answered_by : (ed : Edition) (text : List ℕ)
    → answers_of (by_device device pins_of) (power_up_as ed all_high) text ≡ lines_by (opened ed all_high) (history_of text)
answered_by ed text = answered_as_history ed text ∙ lines_are (history_of text) (power_up_as ed all_high) (opened ed all_high) (agrees_opened ed all_high)
