-- A sign in words: its letter and, where a line is unfit, why ("Mending captured scripts").
use Rattle.std.specs.Prelude.{List, [], ◌∷◌, ◌++◌, ℕ, Option, Some, None, codes}
use Rattle.text.specs.Lines.{Line}
use Rattle.mend.specs.declared.signs.Reason.{Reason}
use Rattle.mend.specs.declared.signs.Reason.TheVariants.{OddDigit, NoKind, WrongCount}
use Rattle.mend.specs.declared.signs.Sign.{Sign}
use Rattle.mend.specs.Line.{letter_of, sign_of}
use Rattle.mend.specs.Reason.{reason_told, reason_of}

-- Each reason.
abbrev pub reason_words : Reason → List ℕ
reason_words OddDigit = codes "odd digit"
reason_words NoKind = codes "no such kind"
reason_words WrongCount = codes "wrong count of digits"

-- Behind a letter the reason, where there is one.
abbrev pub reason_behind : Option Reason → List ℕ
reason_behind None = []
reason_behind (Some reason) = codes ", " ++ reason_words reason

-- A sign, and that of a line.
abbrev pub sign_words : Sign → List ℕ
sign_words sign = letter_of sign ∷ reason_behind (reason_told sign)

abbrev pub words_of : Line → List ℕ
words_of l = sign_of l ∷ reason_behind (reason_of l)
