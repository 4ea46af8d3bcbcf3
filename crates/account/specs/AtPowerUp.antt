-- What is promised of the run of a text that begins at power-up, by the account alone and in plain numbers ("Script and program").
use Rattle.std.specs.Prelude.{◌≡◌, List, ◌++◌, ℕ, ◌*◌, ◌<◌, ◌≤◌, length, drop}
use Rattle.chip.specs.declared.Edition.{Edition}
use Rattle.chip.specs.declared.Levels.{Levels}
use Rattle.text.specs.History.{history_of}
use Rattle.script.specs.Answers.{answer_width}
use Rattle.script.specs.Run.{ran_of}
use Rattle.script.specs.AtPowerUp.{output_by_chip}
use Rattle.account.specs.Account.{opened}
use Rattle.account.specs.Script.{lines_by, line_total}

-- Every line of the three ports is high.
abbrev pub lines_high : Levels
lines_high = record { a = 0xff; b = 0xff; c = 0xff }

-- The answer lines of a text's history, by the account, from a power-up with every line high.
abbrev pub lines_from_power_up : Edition → List ℕ → List ℕ
lines_from_power_up ed text = lines_by (opened ed lines_high) (history_of text)

-- The run of a text gives back the number n and a count of lines, and leaves these bytes in the output.
pub record Leaves (ed : Edition) (text out : List ℕ) (n lines : ℕ) (left : List ℕ) : Type 0 where
  pub told : ran_of answer_width text (length out) ≡ record { number = n; lines = lines }
  pub output : output_by_chip ed text out ≡ left

-- A text of more than 4,096 bytes is refused with 6. Any other is refused with 7 if the output is shorter than eleven bytes for each line. The
-- output is then as it was. A text that runs gives 0 and the number of its lines; the output has the answer lines, and behind them the bytes that
-- stood there.
pub record RunsFromPowerUp (ed : Edition) (text out : List ℕ) : Type 0 where
  pub too_long : 4096 < length text → Leaves ed text out 6 0 out
  pub no_room : length text ≤ 4096 → length out < 11 * line_total text → Leaves ed text out 7 0 out
  pub runs : length text ≤ 4096 → 11 * line_total text ≤ length out
      → Leaves ed text out 0 (line_total text) (lines_from_power_up ed text ++ drop (11 * line_total text) out)
