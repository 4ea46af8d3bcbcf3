-- The run of a text by any device that answers it ("Script and program").
use Rattle.std.specs.Prelude.{◌≡◌, List, [], ◌∷◌, ◌++◌, ℕ, ◌+◌, ◌*◌, ◌<◌, ◌≤◌, length, take, drop}
use Rattle.text.specs.Lines.{lf}
use Rattle.script.specs.Answers.{Answerer, answers_of, left_after}
use Rattle.script.specs.Run.{ran_of, width_of, output_left, subject_left}
use Rattle.account.specs.Script.{line_total}

module _ {S : Type 0} (a : Answerer S) where
  -- The bytes that the answers to a text take, in plain numbers: for each line four digits, six more for each card, and LF.
  abbrev pub bytes_of_answers : S → List ℕ → ℕ
  bytes_of_answers s text = (4 + 6 * a.cards s + 1) * line_total text

  -- A run leaves every byte of the output as it was, and the device.
  pub record LeavesAll (s : S) (text out : List ℕ) : Type 0 where
    pub output : output_left a s text out ≡ out
    pub subject : subject_left a s text (length out) ≡ s

  -- A run is refused with the number n: it counts no line, and leaves all.
  pub record RefusedWith (n : ℕ) (s : S) (text out : List ℕ) : Type 0 where
    pub told : ran_of (width_of a s) text (length out) ≡ record { number = n; lines = 0 }
    pub leaves : LeavesAll s text out

  -- Which runs are refused, in plain numbers: those of a text of more than 4,096 bytes with 6, and of the others those into an output that is too
  -- short for the answers with 7.
  pub record RefusedByLength (s : S) (text out : List ℕ) : Type 0 where
    pub too_long : 4096 < length text → RefusedWith 6 s text out
    pub no_room : length text ≤ 4096 → length out < bytes_of_answers s text → RefusedWith 7 s text out

  -- A text that may run: it has at most 4,096 bytes, and the output has room for the answers.
  pub record MayRun (s : S) (text out : List ℕ) : Type 0 where
    pub short : length text ≤ 4096
    pub room : bytes_of_answers s text ≤ length out

  -- A run is accepted: it counts every line; the output begins with the answers, and every byte behind them is as it was; the device is the one
  -- that the lines leave.
  pub record WritesAnswers (s : S) (text out : List ℕ) : Type 0 where
    pub told : ran_of (width_of a s) text (length out) ≡ record { number = 0; lines = line_total text }
    pub answers : take (bytes_of_answers s text) (output_left a s text out) ≡ answers_of a s text
    pub behind : drop (bytes_of_answers s text) (output_left a s text out) ≡ drop (bytes_of_answers s text) out
    pub subject : subject_left a s text (length out) ≡ left_after a s text

-- A text with the LF that ends its last line.
abbrev pub up_to_lf : List ℕ → List ℕ
up_to_lf text = text ++ lf ∷ []
