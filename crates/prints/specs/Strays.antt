-- What the program says on standard error of the lines that are no frames, if it trims nothing for them ("Trimming the journal").
use Rattle.std.specs.Prelude.{cond, List, [], ◌∷◌, ◌++◌, ℕ, suc, ◌-◌, eqb, length, take, codes}
use mathlib.Core.List.{flat_map}
use Rattle.std.specs.Fmt.{decimal}
use Rattle.text.specs.Lines.{Line, lines_of}
use Rattle.text.specs.Frames.{is_event, frame_in}

-- The number of a line, if it is no frame; and those of some lines in turn, of which the first has this number.
abbrev pub stray_in : ℕ → Line → List ℕ
stray_in number l = cond (is_event (frame_in l)) [] (number ∷ [])

abbrev pub strays_from : ℕ → List Line → List ℕ
strays_from number [] = []
strays_from number (l ∷ ls) = stray_in number l ++ strays_from (suc number) ls

-- Of a text, whose lines count from 1.
unfoldable pub strays_of : List ℕ → List ℕ
strays_of text = strays_from 1 (lines_of text)

-- So many of them are named; of the others it is said how many they are.
abbrev pub most_named : ℕ
most_named = 10

unfoldable pub stray_line : ℕ → List ℕ
stray_line number = codes "line " ++ decimal number ++ codes " is no frame\n"

unfoldable pub more_line : ℕ → List ℕ
more_line count =
    cond (eqb count 0) []
    (cond (eqb count 1) (codes "1 more line is no frame\n")
    (decimal count ++ codes " more lines are no frames\n"))

abbrev pub named : List ℕ → List ℕ
named numbers = flat_map stray_line numbers

unfoldable pub said_of_strays : List ℕ → List ℕ
said_of_strays text = named (take most_named (strays_of text)) ++ more_line (length (strays_of text) - most_named)
