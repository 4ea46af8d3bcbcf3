-- The cycle that runs after a history, and the event that began it ("State").
use Rattle.std.specs.Prelude.{◌≡◌, cond, List, [], ◌∷◌, ◌++◌, ◌⊎◌, eqb}
use Rattle.bus.specs.Kinds as kinds
use Rattle.bus.specs.Event.{Event}
use Rattle.bus.specs.declared.Phase.{Phase}
use Rattle.bus.specs.declared.Phase.TheVariants.{Idle, Reading, Writing}
use Rattle.bus.specs.Device.{Device, Given, step_in, run_in}

-- The cycle that an event would begin: a read at its address, or a write of its byte there. An event of another kind begins none.
abbrev pub cycle_of : Event → Phase
cycle_of e =
    cond (eqb e.kind kinds.begin_read) (Reading e.first)
    (cond (eqb e.kind kinds.begin_write) (Writing e.first e.second)
    Idle)

-- What a device gives for an event.
abbrev pub given_in : {S R : Type 0} → Device S R → S → Event → Given S
given_in dev s e = step_in dev s e.kind e.first e.second

-- Of some events none that is accepted begins a cycle.
abbrev pub NoneBegins : {S R : Type 0} → Device S R → S → List Event → Type 0
NoneBegins dev s [] = Unit {0}
NoneBegins dev s (e ∷ es) = ((given_in dev s e).number ≡ 0 → cycle_of e ≡ Idle) × NoneBegins dev (given_in dev s e).state es

-- Among the events es from the state s the last accepted beginning is that of the cycle ph, and names its place.
pub record BegunBy {S R : Type 0} (dev : Device S R) (s : S) (es : List Event) (ph : Phase) : Type 0 where
  pub before : List Event
  pub beginning : Event
  pub after : List Event
  pub among : es ≡ before ++ beginning ∷ after
  pub accepted : (given_in dev (run_in dev s before) beginning).number ≡ 0
  pub names : cycle_of beginning ≡ ph
  pub last : NoneBegins dev (given_in dev (run_in dev s before) beginning).state after

-- The cycle ph was begun so among the events; or it ran before them, and none of them began another.
abbrev pub Begun : {S R : Type 0} → Device S R → S → List Event → Phase → Type 0
Begun dev s es ph = BegunBy dev s es ph ⊎ ((ph ≡ dev.phase s) × NoneBegins dev s es)
