-- Which events are done on one group, by their numbers and by what runs on the bus, with ports and pins by plain numbers ("Two groups"). Doings
-- says it by the history.
use Rattle.std.specs.Prelude.{◌≡◌, List, [], ◌∷◌}
use Rattle.bus.specs.Event.{Event}
use Rattle.bus.specs.declared.Phase.{Phase}
use Rattle.bus.specs.declared.Phase.TheVariants.{Reading, Writing}
use Rattle.control.specs.declared.Group.{Group}
use Rattle.control.specs.declared.Group.TheVariants.{A, B}
use Rattle.chip.specs.declared.Chip.{Chip}
use Rattle.chip.specs.Step.{stepped}
use Rattle.fates.specs.Promise.{run}
use Rattle.fates.specs.Conditions.{Wherever}
use Rattle.groups.specs.InTheWay.{Runs}
use Rattle.groups.specs.Kept.{SameFrom3, SameTo3}

-- Levels come onto the group's port, or onto port C, where they differ from those outside at pins 7 to 4 at most for group A, and at pins 2 to 0 at
-- most for group B. Or a cycle of the group begins or ends. The event may be a refused one.
pub data DoneOn (c : Chip) (e : Event) : Group → Type 0 where
  levels_a : e.kind ≡ 5 → e.first ≡ 0 → DoneOn c e A
  levels_b : e.kind ≡ 5 → e.first ≡ 1 → DoneOn c e B
  lines_a : e.kind ≡ 5 → e.first ≡ 2 → SameTo3 e.second c.core.c.outside → DoneOn c e A
  lines_b : e.kind ≡ 5 → e.first ≡ 2 → SameFrom3 e.second c.core.c.outside → DoneOn c e B
  read_begins : {g : Group} → e.kind ≡ 1 → Runs (Reading e.first) g → DoneOn c e g
  write_begins : {g : Group} → e.kind ≡ 3 → Runs (Writing e.first e.second) g → DoneOn c e g
  cycle_ends : {g : Group} → e.kind ≡ 2 → Runs c.phase g → DoneOn c e g

-- A read of port C or of control.
pub data ReadsForBoth (ph : Phase) : Type 0 where
  reads_lines : ph ≡ Reading 2 → ReadsForBoth ph
  reads_control : ph ≡ Reading 3 → ReadsForBoth ph

-- An event is done on the group, or such a read begins or ends.
pub data Harmless (g : Group) (c : Chip) (e : Event) : Type 0 where
  done : DoneOn c e g → Harmless g c e
  status_begins : e.kind ≡ 1 → ReadsForBoth (Reading e.first) → Harmless g c e
  status_ends : e.kind ≡ 2 → ReadsForBoth c.phase → Harmless g c e

-- So it is with each event of a history that the chip accepts, from the chip c on.
abbrev pub EachHarmless : Group → Chip → List Event → Type 0
EachHarmless g c = Wherever (λ before e. (stepped (run c before) e).number ≡ 0 → Harmless g (run c before) e)

-- What is left of a history, from the chip c on, where those events are struck out that are done on the group.
pub data StruckOut (g : Group) : Chip → List Event → List Event → Type 0 where
  at_the_end : {c : Chip} → StruckOut g c [] []
  struck : {c : Chip} {e : Event} {es left : List Event} → DoneOn c e g → StruckOut g (stepped c e).state es left → StruckOut g c (e ∷ es) left
  kept : {c : Chip} {e : Event} {es left : List Event} → ¬ DoneOn c e g → StruckOut g (stepped c e).state es left
      → StruckOut g c (e ∷ es) (e ∷ left)
