-- The answers to every script of the 8355 are the account's. Those to the scripts of specs/Script.antt are computed by it, without a device.
-- Rests on Account and Agrees, on script's History and on text's Quoted.
use Rattle.std.proofs.Common.{◌≡◌, ◌∙◌, refl, List, [], ◌∷◌, ℕ}
use Rattle.bits.specs.Bit.{bit_of}
use Rattle.bus.specs.Kinds.{is_kind, operands_of}
use Rattle.bus.specs.Event.{Event}
use Rattle.text.specs.Digits.{digit_value, digit_code, pair_value}
use Rattle.text.specs.Lines.{lines_of}
use Rattle.text.specs.Frames.{leading_byte, is_frame, frame_of, frame_in}
use Rattle.text.specs.History.{history_of}
use Rattle.text.specs.Quoted.{answered, listed}
use Rattle.text.proofs.Quoted.{answered_alike}
use Rattle.bus.specs.Begun.{given_in}
use Rattle.script.specs.Answers.{by_device, line_after, line_text, levels_from, answers_of}
use Rattle.script.specs.History.{answers_to}
use Rattle.script.proofs.History.{history_answered}
use Rattle.i8355.specs.declared.Chip8355.{Chip8355}
use Rattle.i8355.specs.State.{power_up}
use Rattle.i8355.specs.Views.{pins_of}
use Rattle.i8355.specs.Step.{device, step_of}
use Rattle.laws8355.specs.Account.{Account, account_next, opened}
use Rattle.laws8355.specs.Script.{line_by, lines_by, texts}
use Rattle.laws8355.proofs.Agrees.{Agrees, agrees_opened, agrees_next}
use Rattle.laws8355.proofs.Account.{levels_shown_lem, number_told_lem, byte_told_lem}

line_is : (c : Chip8355) (a : Account) (e : Event) → Agrees c a → line_after (by_device device pins_of) (given_in device c e) ≡ line_by a e
unfolding step_of levels_from
line_is c a e k =
    let levels = levels_shown_lem (given_in device c e).state (account_next a e) (agrees_next c a e k) in
    cc (number_told_lem c a k e, byte_told_lem c a k e, levels 0, levels 1, levels 2)

lines_are : (es : List Event) (c : Chip8355) (a : Account) → Agrees c a → answers_to device pins_of c es ≡ lines_by a es
lines_are [] c a k = refl
lines_are (e ∷ es) c a k = cc (line_is c a e k, lines_are es (given_in device c e).state (account_next a e) (agrees_next c a e k))

pub answered_by : (text : List ℕ) → answers_of (by_device device pins_of) power_up text ≡ lines_by opened (history_of text)
answered_by text = history_answered device pins_of power_up text ∙ lines_are (history_of text) power_up opened agrees_opened

as_listed : answered (λ text. lines_by opened (history_of text)) texts ≡ listed texts
unfolding bit_of digit_value digit_code pair_value is_kind operands_of leading_byte is_frame frame_of lines_of frame_in line_text
as_listed = refl

pub texts_answered : answered (answers_of (by_device device pins_of) power_up) texts ≡ listed texts
texts_answered = answered_alike (answers_of (by_device device pins_of) power_up) (λ text. lines_by opened (history_of text)) answered_by texts ∙ as_listed
