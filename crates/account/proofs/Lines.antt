-- The answer lines of a history are those of an account that agrees with the chip.
-- Rests on Agrees, Views and Accounted.
use Rattle.std.proofs.Common.{◌≡◌, refl, List, [], ◌∷◌}
use Rattle.bus.specs.Event.{Event}
use Rattle.bus.specs.Begun.{given_in}
use Rattle.chip.specs.declared.Chip.{Chip}
use Rattle.chip.specs.Pins.{pins_of}
use Rattle.chip.specs.Step.{device, step_of, stepped}
use Rattle.script.specs.Answers.{by_device, levels_from, line_after}
use Rattle.script.specs.History.{answers_to}
use Rattle.account.specs.Account.{Account, account_next}
use Rattle.account.specs.Script.{line_by, lines_by}
use Rattle.account.proofs.Agrees.{Agrees, agrees_next}
use Rattle.account.proofs.Views.{levels_shown_lem}
use Rattle.account.proofs.Accounted.{number_told_lem, byte_told_lem}

line_is : (c : Chip) (a : Account) (e : Event) → Agrees c a → line_after (by_device device pins_of) (given_in device c e) ≡ line_by a e
unfolding step_of levels_from
line_is c a e k =
    let levels = levels_shown_lem (stepped c e).state (account_next a e) (agrees_next c a e k) in
    cc (number_told_lem c a k e, byte_told_lem c a k e, levels 0, levels 1, levels 2)

pub lines_are : (es : List Event) (c : Chip) (a : Account) → Agrees c a → answers_to device pins_of c es ≡ lines_by a es
unfolding step_of
lines_are [] c a k = refl
lines_are (e ∷ es) c a k = cc (line_is c a e k, lines_are es (stepped c e).state (account_next a e) (agrees_next c a e k))
