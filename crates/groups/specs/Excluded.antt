-- What counts as no group's doing, and what it changes: why the sentences about the groups leave it out ("Two groups").
use Rattle.std.specs.Prelude.{◌≡◌, false, List, [], ◌∷◌, ◌++◌, ℕ}
use Rattle.bus.specs.Event.{Event, event}
use Rattle.bus.specs.Histories.{write, levels}
use Rattle.control.specs.declared.Group.{Group}
use Rattle.control.specs.declared.Group.TheVariants.{A, B}
use Rattle.chip.specs.declared.Edition.TheVariants.{Older}
use Rattle.chip.specs.declared.Chip.{Chip}
use Rattle.chip.specs.State.{all_high, power_up_with}
use Rattle.laws.specs.Marked.{strobe}
use Rattle.fates.specs.Surroundings.{at_power_up}
use Rattle.fates.specs.Promise.{run}
use Rattle.groups.specs.Belongings.{belongings_of}
use Rattle.groups.specs.Doings.{only_of}
use Rattle.groups.specs.Apart.{Left}

-- A history from a power-up with every line high, and what is then done; the group that changes, and the levels of its pins of port C
-- before and after.
pub record Example : Type 0 where
  pub before : List Event
  pub done : List Event
  pub group : Group
  pub was : ℕ
  pub becomes : ℕ

-- An example, written in one line.
infixl 60 ◌then◌changes◌from◌to◌
abbrev pub ◌then◌changes◌from◌to◌ : List Event → List Event → Group → ℕ → ℕ → Example
h then d changes g from x to y = record { before = h; done = d; group = g; was = x; becomes = y }

-- The chip before, and the levels of a group's pins in a chip.
abbrev pub start : Example → Chip
start x = run (power_up_with all_high) x.before

abbrev pub shown : Group → Chip → ℕ
shown g c = (belongings_of g c).levels

-- Before and after, the pins are as the example says; so the group is not left as it was.
pub record Changes (x : Example) : Type 0 where
  pub first : shown x.group (start x) ≡ x.was
  pub last : shown x.group (run (start x) x.done) ≡ x.becomes
  pub not_left : ¬ Left x.group (start x) x.done

-- So it is with each example.
abbrev pub EachChanges : List Example → Type 0
EachChanges [] = Unit {0}
EachChanges (x ∷ xs) = Changes x × EachChanges xs

-- The scale has strobed a digit into port A: IBF and STB are high.
abbrev pub scale : List Event
scale = write 3 0xb0 ++ strobe 0x41

-- A byte for the printer waits in port B: OBF is low, and ACK is high.
abbrev pub printer : List Event
printer = write 3 0x94 ++ write 1 0x33

-- No port has a handshake, and all of port C is an output.
abbrev pub outputs : List Event
outputs = write 3 0x80

-- A mode word that turns the other port round, and a reset, take the scale's digit and the printer's byte. A byte for port C that sets a pin
-- of one group resets one of the other. Bit set of pin 3, and levels that differ there, change a pin of group A.
abbrev pub examples : List Example
examples =
    (scale then write 3 0xb2 changes A from 0x30 to 0x10)
    ∷ (printer then write 3 0x84 changes B from 0x04 to 0x06)
    ∷ (scale then event 0 0 0 ∷ [] changes A from 0x30 to 0xf8)
    ∷ (printer then event 0 0 0 ∷ [] changes B from 0x04 to 0x07)
    ∷ ((outputs ++ write 3 0x0f) then write 2 0x01 changes A from 0x80 to 0x00)
    ∷ ((outputs ++ write 3 0x01) then write 2 0x80 changes B from 0x01 to 0x00)
    ∷ (outputs then write 3 0x07 changes A from 0x00 to 0x08)
    ∷ ([] then levels 2 0xf7 changes A from 0xf8 to 0xf0)
    ∷ []

-- The same, each from a power-up with every line high: a mode word, a reset, a byte for port C, bit set of pin 3, and levels that differ there.
abbrev pub excluded : List (List Event)
excluded = write 3 0x80 ∷ (event 0 0 0 ∷ []) ∷ write 2 0x01 ∷ write 3 0x07 ∷ levels 2 0xf7 ∷ []

-- None of them counts as the group's.
abbrev pub NoneIsOf : Group → List (List Event) → Type 0
NoneIsOf g [] = Unit {0}
NoneIsOf g (es ∷ more) = (only_of g (at_power_up Older all_high) es ≡ false) × NoneIsOf g more
