-- The whole case and the other scripts of specs/Texts.antt have the answers that the rules list. The checker computes them by the account,
-- and ask the chip at power-up alone.
-- Rests on Agrees and Lines, on fates' ScriptRun and on text's Quoted.
use Rattle.std.proofs.Common.{◌≡◌, ◌∙◌, refl, List, ℕ, ◌*◌, length, map, sum}
use Rattle.bits.specs.Bit.{bit_of}
use Rattle.bus.specs.Kinds.{is_kind, operands_of}
use Rattle.chip.specs.declared.Edition.{Edition}
use Rattle.chip.specs.declared.Edition.TheVariants.{Older, Newer}
use Rattle.chip.specs.State.{all_high, power_up_as}
use Rattle.chip.specs.Pins.{pins_of}
use Rattle.chip.specs.Step.{device}
use Rattle.text.specs.Digits.{digit_value, digit_code, pair_value}
use Rattle.text.specs.Lines.{lines_of}
use Rattle.text.specs.Frames.{leading_byte, is_frame, frame_of, frame_in}
use Rattle.text.specs.History.{history_of}
use Rattle.text.specs.Quoted.{answered, listed}
use Rattle.text.proofs.Quoted.{answered_alike}
use Rattle.script.specs.Answers.{by_device, line_text, answers_of}
use Rattle.fates.proofs.ScriptRun.{answered_as_history}
use Rattle.account.specs.Account.{Account}
use Rattle.account.specs.Promise.{account_of}
use Rattle.account.specs.Script.{lines_by}
use Rattle.account.specs.Texts.{texts}
use Rattle.account.proofs.Agrees.{agrees_of}
use Rattle.account.proofs.Lines.{lines_are}

-- The account with which the history of a script begins.
abbrev start : Edition → Account
start ed = account_of (power_up_as ed all_high)

by_account : (ed : Edition) (text : List ℕ) → answers_of (by_device device pins_of) (power_up_as ed all_high) text ≡ lines_by (start ed) (history_of text)
by_account ed text = answered_as_history ed text ∙ lines_are (history_of text) (power_up_as ed all_high) (start ed) (agrees_of (power_up_as ed all_high))

as_listed : (ed : Edition) → answered (λ text. lines_by (start ed) (history_of text)) (texts ed) ≡ listed (texts ed)
unfolding bit_of digit_value digit_code pair_value is_kind operands_of leading_byte is_frame frame_of lines_of frame_in line_text
as_listed Older = refl
as_listed Newer = refl

pub texts_answered : (ed : Edition) → answered (answers_of (by_device device pins_of) (power_up_as ed all_high)) (texts ed) ≡ listed (texts ed)
texts_answered ed =
    answered_alike (answers_of (by_device device pins_of) (power_up_as ed all_high)) (λ text. lines_by (start ed) (history_of text)) (by_account ed) (texts ed)
    ∙ as_listed ed

-- They are nine, with so many bytes in answer.
pub nine_texts : (ed : Edition) → length (texts ed) ≡ 9
nine_texts Older = refl
nine_texts Newer = refl

pub lines_listed : (ed : Edition) → sum (map length (listed (texts ed))) ≡ 27 * 11
lines_listed Older = refl
lines_listed Newer = refl
