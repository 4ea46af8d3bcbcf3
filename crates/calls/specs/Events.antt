-- An event on bytes that are checked: what a call answers to it, and what it leaves of them.
use Rattle.std.specs.Prelude.{◌≡◌, true, List, ℕ}
use Rattle.bus.specs.declared.events.Event.{Event}
use Rattle.bus.specs.Answers.{raw}
use Rattle.image.specs.Good.{is_image, Told}
use Rattle.calls.specs.Calls.{step_answer, step_image}

-- The bytes are an image, and so the image of the state that they tell.
abbrev pub Checked : List ℕ → Type 0
Checked l = (is_image l ≡ true) × Told l

-- The event by its kind and its operands, of which those that the kind lacks are 0.
abbrev pub event_answer : List ℕ → Event → ℕ
event_answer l e = step_answer l (raw e).kind (raw e).first (raw e).second

abbrev pub event_image : List ℕ → Event → List ℕ
event_image l e = step_image l (raw e).kind (raw e).first (raw e).second
