-- What the program prints of a script that it trims, line by line ("Trimming the journal").
use Rattle.std.specs.Prelude.{◌≡◌, List, [], ◌∷◌, ◌++◌, ℕ}
use Rattle.bus.specs.Event.{Event}
use Rattle.chip.specs.declared.Chip.{Chip}
use Rattle.chip.specs.declared.Edition.TheVariants.{Older}
use Rattle.chip.specs.State.{power_up_as}
use Rattle.chip.specs.Step.{stepped}
use Rattle.text.specs.Lines.{Line, ended, lines_of}
use Rattle.text.specs.Quoted.{Text, ◌gives◌}
use Rattle.mendlaws.specs.Says.{Says, AllSay}
use Rattle.account.specs.AtPowerUp.{lines_high}

-- What is printed of some lines that a chip meets, each of which says an event: of those after which the chip is another than before, in their order,
-- the bytes as they stand and LF; and nothing of the others.
pub data KeptLines : Chip → List Line → List ℕ → Type 0 where
  none : {c : Chip} → KeptLines c [] []
  kept : {c : Chip} {bytes : List ℕ} {e : Event} {ls : List Line} {later : List ℕ}
      → Says bytes e → ¬ ((stepped c e).state ≡ c) → KeptLines (stepped c e).state ls later → KeptLines c (ended bytes ∷ ls) (bytes ++ 10 ∷ later)
  dropped : {c : Chip} {bytes : List ℕ} {e : Event} {ls : List Line} {later : List ℕ}
      → Says bytes e → (stepped c e).state ≡ c → KeptLines (stepped c e).state ls later → KeptLines c (ended bytes ∷ ls) later

-- The lines of a text, met by a chip of the older edition at its power-up, with every line high.
abbrev pub TextKept : List ℕ → List ℕ → Type 0
TextKept text printed = KeptLines (power_up_as Older lines_high) (lines_of text) printed

-- Each line of a text says an event.
abbrev pub SaysEvents : List ℕ → Type 0
SaysEvents text = (es : List Event) × AllSay (lines_of text) es

-- A script, and what is left of it. A reset that finds nothing to clear, levels that are there already, an address that there is not, and a read
-- that begins while a write runs are gone.
abbrev pub a_script : Text
a_script =
    "00\n0502FF\n050041\n0109\n0303B0\n0100\n02\n0502EF\n0502EF\n0502FF\n0102\n02\n"
    gives "050041\n0303B0\n02\n0502EF\n0502FF\n0102\n02\n"

-- Scripts with lines that are no frames, and what is said of these on standard error: each by its number, which counts from 1, up to ten of them, and how
-- many more there are.
abbrev pub stray_texts : List Text
stray_texts =
    ("00\n\n02\n04\n0z\n0100" gives "line 2 is no frame\nline 4 is no frame\nline 5 is no frame\nline 6 is no frame\n")
    ∷ ("00\n\n\n\n\n\n\n\n\n\n\n\n"
    gives "line 2 is no frame\nline 3 is no frame\nline 4 is no frame\nline 5 is no frame\nline 6 is no frame\nline 7 is no frame\nline 8 is no frame\nline 9 is no frame\nline 10 is no frame\nline 11 is no frame\n1 more line is no frame\n")
    ∷ ("\n\n\n\n\n\n\n\n\n\n\n\n"
    gives "line 1 is no frame\nline 2 is no frame\nline 3 is no frame\nline 4 is no frame\nline 5 is no frame\nline 6 is no frame\nline 7 is no frame\nline 8 is no frame\nline 9 is no frame\nline 10 is no frame\n2 more lines are no frames\n")
    ∷ []
