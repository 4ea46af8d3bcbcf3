-- What the program prints of why the interrupts are quiet after a script ("Why the interrupt is quiet").
use Rattle.std.specs.Prelude.{cond, List, [], ◌∷◌, ◌++◌, ℕ, eqb, codes}
use Rattle.std.specs.Fmt.{decimal}
use Rattle.control.specs.declared.Group.{Group}
use Rattle.control.specs.declared.Group.TheVariants.{A, B}
use Rattle.chip.specs.declared.Chip.{Chip}
use Rattle.chip.specs.declared.channel.Side.{Side}
use Rattle.chip.specs.declared.channel.Side.TheVariants.{Input, Output}
use Rattle.chip.specs.declared.reasons.Reason.{Reason}
use Rattle.chip.specs.declared.reasons.Reason.TheVariants.{EnableOff, FlagWrong, LineLow, OwnCycle, High}
use Rattle.chip.specs.declared.reasons.Explained.{Explained}
use Rattle.chip.specs.declared.reasons.Explained.TheVariants.{ModeZero, InputHalf, OutputHalf, BothHalves}
use Rattle.chip.specs.Reasons.{explained_in}
use Rattle.text.specs.Lines.{lf}
use Rattle.script.specs.Run.{too_long}
use Rattle.prints.specs.Left.{left_of}

-- What is said of a half: that it is high, or that it is low and why. The flag, the line and the cycle have other words on either side.
abbrev pub reason_words : Side → Reason → List ℕ
reason_words side EnableOff = codes "low, the interrupt is not enabled"
reason_words Input FlagWrong = codes "low, no byte is waiting to be read"
reason_words Output FlagWrong = codes "low, the last byte has not been taken"
reason_words Input LineLow = codes "low, the strobe line is low"
reason_words Output LineLow = codes "low, the acknowledge line is low"
reason_words Input OwnCycle = codes "low, a read of the port is running"
reason_words Output OwnCycle = codes "low, a write to the port is running"
reason_words side High = codes "high"

abbrev pub group_name : Group → List ℕ
group_name A = codes "A"
group_name B = codes "B"

abbrev pub side_name : Side → List ℕ
side_name Input = codes "input"
side_name Output = codes "output"

-- The line of a half.
unfoldable pub half_line : Group → Side → Reason → List ℕ
half_line g side reason =
    codes "group " ++ group_name g ++ codes ", " ++ side_name side ++ codes ": " ++ reason_words side reason ++ lf ∷ []

-- The lines of a group: one in mode 0, which has no half, and in mode 1; and two in mode 2, the input's first.
unfoldable pub group_lines : Group → Explained → List ℕ
group_lines g ModeZero = codes "group " ++ group_name g ++ codes ": there is no INTR, the group is in mode 0" ++ lf ∷ []
group_lines g (InputHalf reason) = half_line g Input reason
group_lines g (OutputHalf reason) = half_line g Output reason
group_lines g (BothHalves input output) = half_line g Input input ++ half_line g Output output

-- How many lines of the script were refused. Where none was, nothing is said.
unfoldable pub refused_line : ℕ → List ℕ
refused_line count = cond (eqb count 0) [] (codes "lines that were refused, and changed nothing: " ++ decimal count ++ lf ∷ [])

-- All that is said of the chip that a script leaves, and of the count of its refused lines.
unfoldable pub said_of_left : Chip → ℕ → List ℕ
said_of_left c count = group_lines A (explained_in c A) ++ group_lines B (explained_in c B) ++ refused_line count

-- A text that is longer than a script may be is not run, and that is said in place of all this.
abbrev pub not_run : List ℕ
not_run = codes "the text is longer than 4,096 bytes, and was not run" ++ lf ∷ []

unfoldable pub printed_quiet : List ℕ → List ℕ
printed_quiet text = cond (too_long text) not_run (said_of_left (left_of text).state (left_of text).refused)
