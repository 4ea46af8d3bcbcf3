-- What the program prints of a captured script that it mends, and what it says of its lines ("Mending captured scripts").
use Rattle.std.specs.Prelude.{Bool, cond, ◌||◌, List, [], ◌∷◌, ◌++◌, ℕ, suc, eqb, codes}
use Rattle.std.specs.Fmt.{decimal}
use Rattle.std.specs.List.{list_any}
use Rattle.text.specs.Lines.{lf, Line, lines_of}
use Rattle.script.specs.Run.{too_long, too_long_number}
use Rattle.mend.specs.Line.{kept_sign, unfit_sign, sign_of}
use Rattle.mend.specs.Words.{words_of}
use Rattle.mend.specs.Mend.{clean_of}
use Rattle.prints.specs.Printed.{refusal_text}

-- The whole text is refused where it or its clean form is longer than a script may be.
abbrev pub refuses_mending : List ℕ → Bool
refuses_mending text = too_long text || too_long (clean_of text)

-- What is printed: the clean script, or 06.
unfoldable pub printed_mended : List ℕ → List ℕ
printed_mended text = cond (refuses_mending text) (refusal_text too_long_number) (clean_of text)

-- What is said of a line that is not kept: its number, its sign and, where it is unfit, why. Of one that is kept nothing is said.
unfoldable pub said_of : ℕ → Line → List ℕ
said_of number l = cond (eqb (sign_of l) kept_sign) [] (codes "line " ++ decimal number ++ codes ": " ++ words_of l ++ lf ∷ [])

-- The same of lines in turn, of which the first has this number; and of all lines of a text, which count from 1.
abbrev pub said_from : ℕ → List Line → List ℕ
said_from number [] = []
said_from number (l ∷ ls) = said_of number l ++ said_from (suc number) ls

unfoldable pub said_of_all : List ℕ → List ℕ
said_of_all text = said_from 1 (lines_of text)

-- Whether a line is unfit, and whether one of a text is.
abbrev pub is_unfit : Line → Bool
is_unfit l = eqb (sign_of l) unfit_sign

unfoldable pub has_unfit : List ℕ → Bool
has_unfit text = list_any is_unfit (lines_of text)
