-- What is kept of a history, as a relation ("Trimming the journal"): no test of two states is in it, but whether they are equal.
use Rattle.std.specs.Prelude.{◌≡◌, true, List, [], ◌∷◌, map, ℕ}
use Rattle.bus.specs.Event.{Event}
use Rattle.chip.specs.declared.Chip.{Chip}
use Rattle.chip.specs.Step.{stepped}
use Rattle.journal.specs.Words.{event_in}
use Rattle.journal.specs.Same.{same_state}

-- The history that a journal is: the event of each word.
abbrev pub events_in : List ℕ → List Event
events_in ws = map event_in ws

-- Of the events es, met by the chip c, exactly those are in ks, in order, after which the state differs from the state before.
pub data Keeps : Chip → List Event → List Event → Type 0 where
  none : {c : Chip} → Keeps c [] []
  kept : {c : Chip} {e : Event} {es ks : List Event} → ¬ ((stepped c e).state ≡ c) → Keeps (stepped c e).state es ks → Keeps c (e ∷ es) (e ∷ ks)
  dropped : {c : Chip} {e : Event} {es ks : List Event} → (stepped c e).state ≡ c → Keeps (stepped c e).state es ks → Keeps c (e ∷ es) ks

-- The test of two states answers exactly equality.
pub record Exactly (c d : Chip) : Type 0 where
  pub only_then : same_state c d ≡ true → c ≡ d
  pub then : c ≡ d → same_state c d ≡ true
