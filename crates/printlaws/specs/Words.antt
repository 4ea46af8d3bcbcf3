-- What the program says of why the interrupts are quiet after a script, by the account of the script's history and a table of words ("Why the
-- interrupt is quiet").
use Rattle.std.specs.Prelude.{cond, List, [], ◌∷◌, ◌++◌, ℕ, ◌+◌, eqb}
use Rattle.std.specs.Fmt.{decimal}
use Prim.Native.String.{String}
use Rattle.bus.specs.Event.{Event}
use Rattle.chip.specs.declared.Edition.TheVariants.{Older}
use Rattle.chip.specs.Reasons.{Numbers}
use Rattle.text.specs.Quoted.{codes}
use Rattle.fates.specs.Kinds.{kind_of}
use Rattle.account.specs.Acts.{number_by}
use Rattle.account.specs.Account.{Account, account_next, opened}
use Rattle.account.specs.AtPowerUp.{lines_high}
use Rattle.account.specs.Promise.{over}
use Rattle.account.specs.Reasons.{explained}

-- A row of the table: what the account says of a half, by its number, and the words for it, of an input and of an output.
pub record Row : Type 0 where
  pub number : ℕ
  pub of_an_input : String
  pub of_an_output : String

abbrev pub row : ℕ → String → String → Row
row n input output = record { number = n; of_an_input = input; of_an_output = output }

abbrev pub table : List Row
table =
    row 2 "low, the interrupt is not enabled" "low, the interrupt is not enabled"  -- INTE is reset
    ∷ row 3 "low, no byte is waiting to be read" "low, the last byte has not been taken"  -- IBF is low, or OBF is
    ∷ row 4 "low, the strobe line is low" "low, the acknowledge line is low"  -- STB is, or ACK is
    ∷ row 5 "low, a read of the port is running" "low, a write to the port is running"
    ∷ row 6 "high" "high"
    ∷ []

-- The line of a group's input, and of its output: by the row of the number. A half that there is not, 0, has no row, and so no line.
abbrev pub input_line : String → ℕ → List Row → List ℕ
input_line g n [] = []
input_line g n (r ∷ rows) =
    cond (eqb n r.number) (codes "group " ++ codes g ++ codes ", input: " ++ codes r.of_an_input ++ codes "\n") (input_line g n rows)

abbrev pub output_line : String → ℕ → List Row → List ℕ
output_line g n [] = []
output_line g n (r ∷ rows) =
    cond (eqb n r.number) (codes "group " ++ codes g ++ codes ", output: " ++ codes r.of_an_output ++ codes "\n") (output_line g n rows)

-- The lines of a group, its input before its output; in mode 0, which the account has as 1, there is one line instead.
abbrev pub lines_of_group : String → Numbers → List ℕ
lines_of_group g said =
    cond (eqb said.input 1) (codes "group " ++ codes g ++ codes ": there is no INTR, the group is in mode 0\n")
    (input_line g said.input table ++ output_line g said.output table)

-- How many events of a history have another number than 0.
abbrev pub refused_in : Account → List Event → ℕ
refused_in a [] = 0
refused_in a (e ∷ es) = cond (eqb (number_by a.surroundings.edition a.surroundings.phase (kind_of e)) 0) 0 1 + refused_in (account_next a e) es

-- Their line, in decimal; no line where there is none.
abbrev pub count_line : ℕ → List ℕ
count_line n = cond (eqb n 0) [] (codes "lines that were refused, and changed nothing: " ++ decimal n ++ codes "\n")

-- All that is said after a history: of group A, then of group B, then how many were refused.
abbrev pub said_after : Account → List Event → List ℕ
said_after a es = lines_of_group "A" (explained (over a es) 0) ++ lines_of_group "B" (explained (over a es) 1) ++ count_line (refused_in a es)

-- From a power-up of the older edition with every line high.
abbrev pub accounted_words : List Event → List ℕ
accounted_words es = said_after (opened Older lines_high) es
