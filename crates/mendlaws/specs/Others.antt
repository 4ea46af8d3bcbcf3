-- What a line is that says no event, and what devices make of it ("Script and program").
use Rattle.std.specs.Prelude.{◌≡◌, List, ℕ}
use Rattle.bus.specs.Event.{Event, event}
use Rattle.bus.specs.Device.{Device}
use Rattle.bus.specs.Begun.{given_in}
use Rattle.mendlaws.specs.Says.{Says}

-- A line, without its LF, says no event.
abbrev pub SaysNothing : List ℕ → Type 0
SaysNothing bytes = (e : Event) → ¬ Says bytes e

-- An event of no kind: there is no kind 255.
abbrev pub of_no_kind : Event
of_no_kind = event 255 0 0

-- A device in a state refuses an event with 1: it answers 00, and stays as it was.
pub record RefusesWith1 {S R : Type 0} (dev : Device S R) (s : S) (e : Event) : Type 0 where
  pub number : (given_in dev s e).number ≡ 1
  pub byte : (given_in dev s e).byte ≡ 0
  pub stays : (given_in dev s e).state ≡ s
