-- What a history is answered, event by event ("Script and program").
use Rattle.std.specs.Prelude.{List, [], ◌∷◌, ◌++◌, ℕ}
use Rattle.bus.specs.Event.{Event}
use Rattle.bus.specs.Device.{Device}
use Rattle.bus.specs.Begun.{given_in}
use Rattle.bus.specs.declared.Pins.{Pins}
use Rattle.script.specs.Answers.{by_device, line_after}

-- The answer lines that a history is given by a device with that pin view; each event meets the state that the one before it left.
abbrev pub answers_to : {S R : Type 0} → Device S R → (S → ℕ → Pins) → S → List Event → List ℕ
answers_to dev pins s [] = []
answers_to dev pins s (e ∷ es) = line_after (by_device dev pins) (given_in dev s e) ++ answers_to dev pins (given_in dev s e).state es
