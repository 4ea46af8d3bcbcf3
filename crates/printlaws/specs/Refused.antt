-- What is printed of a text that is refused as a whole ("Script and program", "A rack of cards", "Mending captured scripts").
use Rattle.std.specs.Prelude.{◌≡◌, ◌⊎◌, List, [], ◌∷◌, ℕ, ◌<◌, ◌≤◌, length}
use Rattle.text.specs.Quoted.{codes}
use Rattle.racklaws.specs.NamesRack.{NamesRack}

-- A text is longer than a script may be.
abbrev pub IsLong : List ℕ → Type 0
IsLong text = 4096 < length text

-- It is not, and its first line is no rack.
abbrev pub LacksRack : List ℕ → Type 0
LacksRack text = (length text ≤ 4096) × (¬ NamesRack text)

-- Of a text that is longer than a script may be: 06 and LF.
abbrev pub long_text_refused : List ℕ
long_text_refused = 0x30 ∷ 0x36 ∷ 0x0a ∷ []

-- Of a text whose first line is no rack: 09 and LF.
abbrev pub first_line_refused : List ℕ
first_line_refused = 0x30 ∷ 0x39 ∷ 0x0a ∷ []

-- Of a script that is to be trimmed, where one of its lines is no frame: 01 and LF.
abbrev pub line_refused : List ℕ
line_refused = 0x30 ∷ 0x31 ∷ 0x0a ∷ []

-- Of a script whose interrupts are to be explained, and which is longer than a script may be: a sentence.
abbrev pub long_text_unexplained : List ℕ
long_text_unexplained = codes "the text is longer than 4,096 bytes, and was not run\n"

-- Of a captured script: 06 and LF. That is no clean script, as there is no kind 06.
abbrev pub capture_refused : List ℕ
capture_refused = 0x30 ∷ 0x36 ∷ 0x0a ∷ []

-- The bytes of a number alone on its line: two digits and LF. No answers have so many.
abbrev pub length_of_a_number : ℕ
length_of_a_number = 3

-- What is printed is one of two texts.
abbrev pub IsEither : List ℕ → List ℕ → List ℕ → Type 0
IsEither printed one other = (printed ≡ one) ⊎ (printed ≡ other)
