-- A script is answered as its history is, by a chip of either edition, and leaves the chip that its history leads to.
-- Rests on script's History.
use Rattle.std.proofs.Common.{◌≡◌, ◌∙◌, refl, List, [], ◌∷◌, ℕ}
use Rattle.bus.specs.Event.{Event}
use Rattle.bus.specs.Device.{run_in}
use Rattle.chip.specs.declared.Chip.{Chip}
use Rattle.chip.specs.declared.Edition.{Edition}
use Rattle.chip.specs.State.{all_high, power_up_as, power_up_with}
use Rattle.chip.specs.Pins.{pins_of}
use Rattle.chip.specs.Step.{device, step_of, stepped}
use Rattle.text.specs.History.{history_of}
use Rattle.script.proofs.History.{history_answered, history_left}
use Rattle.fates.specs.Promise.{run}
use Rattle.fates.specs.ScriptRun.{AnsweredAsHistory, Leaves}

runs_alike : (c : Chip) (es : List Event) → run_in device c es ≡ run c es
unfolding step_of
runs_alike c [] = refl
runs_alike c (e ∷ es) = runs_alike (stepped c e).state es

pub leaves : (text : List ℕ) → Leaves text
leaves text = history_left device pins_of (power_up_with all_high) text ∙ runs_alike (power_up_with all_high) (history_of text)

pub answered_as_history : (ed : Edition) (text : List ℕ) → AnsweredAsHistory ed text
answered_as_history ed text = history_answered device pins_of (power_up_as ed all_high) text
