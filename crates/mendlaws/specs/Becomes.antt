-- What becomes of the lines of a captured script, as a relation ("Mending captured scripts"): of each its sign, what the clean script has of it,
-- and the event that it says.
use Rattle.std.specs.Prelude.{◌≡◌, List, [], ◌∷◌, ◌++◌, ℕ}
use Rattle.bus.specs.Event.{Event}
use Rattle.text.specs.Lines.{Line, ended, rest}
use Rattle.mendlaws.specs.Says.{Says}
use Rattle.mendlaws.specs.Spells.{Spells, Blank}

-- The bytes of a line, its LF aside.
abbrev pub bytes_in : Line → List ℕ
bytes_in (ended bytes) = bytes
bytes_in (rest bytes) = bytes

-- A line that says an event, and has its LF, is kept as it is: K. One that spells such a line and is not that line is mended: M. The clean script
-- has that line of either, with its LF. A blank line is B; every other is unfit, U; and the clean script has nothing of these.
pub data Becomes : Line → ℕ → List ℕ → List Event → Type 0 where
  kept : {bytes : List ℕ} {e : Event} → Says bytes e → Becomes (ended bytes) 75 (bytes ++ 10 ∷ []) (e ∷ [])
  mended : {l : Line} {bytes : List ℕ} {e : Event} → Says bytes e → Spells (bytes_in l) bytes → ¬ (l ≡ ended bytes)
      → Becomes l 77 (bytes ++ 10 ∷ []) (e ∷ [])
  blank : {l : Line} → Blank (bytes_in l) → Becomes l 66 [] []
  unfit : {l : Line} → ((bytes : List ℕ) (e : Event) → Says bytes e → ¬ Spells (bytes_in l) bytes) → ¬ Blank (bytes_in l) → Becomes l 85 [] []

-- So of all lines in turn: one sign for each, the clean script, and the events that it says.
pub data AllBecome : List Line → List ℕ → List ℕ → List Event → Type 0 where
  none : AllBecome [] [] [] []
  next : {l : Line} {ls : List Line} {s : ℕ} {signs part clean : List ℕ} {es later : List Event}
      → Becomes l s part es → AllBecome ls signs clean later → AllBecome (l ∷ ls) (s ∷ signs) (part ++ clean) (es ++ later)

-- The lines become one thing and one alone: these signs, this clean script and these events.
pub record BecomeOneThing (ls : List Line) : Type 0 where
  pub signs : List ℕ
  pub clean : List ℕ
  pub events : List Event
  pub become : AllBecome ls signs clean events
  pub alone : {other_signs other_clean : List ℕ} {others : List Event} → AllBecome ls other_signs other_clean others
      → (other_signs ≡ signs) × (other_clean ≡ clean) × (others ≡ events)
