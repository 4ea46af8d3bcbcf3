-- A script of the 8355, by the account alone: its answers, and what its run leaves ("The 8355 ports", "Script and program").
use Rattle.std.specs.Prelude.{◌≡◌, List, [], ◌∷◌, ◌++◌, ℕ, ◌*◌, ◌<◌, ◌≤◌, length, drop}
use Rattle.bus.specs.Event.{Event}
use Rattle.text.specs.Lines.{line_count}
use Rattle.text.specs.History.{history_of}
use Rattle.text.specs.Quoted.{Text, ◌gives◌}
use Rattle.script.specs.Answers.{by_device, levels_text, line_text, answer_width, answers_of}
use Rattle.script.specs.Run.{ran_of}
use Rattle.script.specs.AtPowerUp.{output_by_8355}
use Rattle.i8355.specs.State.{power_up}
use Rattle.i8355.specs.Views.{pins_of}
use Rattle.i8355.specs.Step.{device}
use Rattle.laws8355.specs.Account.{Account, account_next, opened, levels_shown, number_by, byte_answered}

-- The answer line of an event: its number and its byte, the levels of A and B after it, and 00 for C.
abbrev pub line_by : Account → Event → List ℕ
line_by a e =
    line_text (number_by a e) (byte_answered a e)
    (levels_text (levels_shown (account_next a e) 0) (levels_shown (account_next a e) 1) 0)

-- The answer lines of a history.
abbrev pub lines_by : Account → List Event → List ℕ
lines_by a [] = []
lines_by a (e ∷ es) = line_by a e ++ lines_by (account_next a e) es

-- What is promised of a text: its answers are the account's, from power-up.
abbrev pub AnsweredBy : List ℕ → Type 0
AnsweredBy text = answers_of (by_device device pins_of) power_up text ≡ lines_by opened (history_of text)

-- The run of a text that begins at power-up gives back the number n and a count of lines, and leaves these bytes in the output.
pub record Leaves (text out : List ℕ) (n lines : ℕ) (left : List ℕ) : Type 0 where
  pub told : ran_of answer_width text (length out) ≡ record { number = n; lines = lines }
  pub output : output_by_8355 text out ≡ left

-- What is promised of that run. A text of more than 4,096 bytes is refused with 6. Any other is refused with 7 if the output is shorter than
-- eleven bytes for each line. The output is then as it was. A text that runs gives 0 and the number of its lines; the output has the account's
-- answer lines, and behind them the bytes that stood there.
pub record RunsFromPowerUp (text out : List ℕ) : Type 0 where
  pub too_long : 4096 < length text → Leaves text out 6 0 out
  pub no_room : length text ≤ 4096 → length out < 11 * line_count text → Leaves text out 7 0 out
  pub runs : length text ≤ 4096 → 11 * line_count text ≤ length out
      → Leaves text out 0 (line_count text) (lines_by opened (history_of text) ++ drop (11 * line_count text) out)

-- Port B is loaded with 5A, and shows it once its direction is FF; it is read; a direction register cannot be read, there is no port C, and 04 is no
-- kind. In the second script the upper half of port A becomes an output, over levels that come later, and a reset turns it back. A blank line and a
-- rest without LF are no frames here either.
abbrev pub texts : List Text
texts =
    ("03015A\n02\n0303FF\n02\n0101\n02\n0102\n0502AA\n04\n"
    gives "0000FFFF00\n0000FFFF00\n0000FFFF00\n0000FF5A00\n005AFF5A00\n0000FF5A00\n0300FF5A00\n0200FF5A00\n0100FF5A00\n")
    ∷ ("0302F0\n02\n050055\n00\n" gives "0000FFFF00\n00000FFF00\n000005FF00\n000055FF00\n")
    ∷ ("\n0500AB" gives "0100FFFF00\n0100FFFF00\n")
    ∷ ("" gives "")
    ∷ []
