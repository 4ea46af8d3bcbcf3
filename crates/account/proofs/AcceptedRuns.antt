-- What an accepted run writes, whatever device answers.
-- Rests on RunNumbers, and on script's Pieces.
use Rattle.std.proofs.Common.{◌≡◌, ◌∙◌, ap, List, ℕ, ◌*◌, length, drop, take_at, drop_at}
use Rattle.script.specs.Answers.{Answerer, answers_of}
use Rattle.script.specs.Run.{room_for, width_of}
use Rattle.script.proofs.Pieces.{answers_length}
use Rattle.account.specs.AnyDevice.{bytes_of_answers, MayRun, WritesAnswers}
use Rattle.account.proofs.RunNumbers.{lines_counted, number_runs, told_runs}

module _ {S : Type 0} (a : Answerer S) (s : S) (text out : List ℕ) where
  abbrev width : ℕ
  width = width_of a s

  -- The answers are as long as the plain numbers say.
  long_as_said : length (answers_of a s text) ≡ bytes_of_answers a s text
  long_as_said = answers_length a s text ∙ ap (λ (n : ℕ). width * n) (lines_counted text)

  pub writes_answers : MayRun a s text out → WritesAnswers a s text out
  writes_answers may =
      let accepted = number_runs width text (length out) may.short may.room in
      let behind : List ℕ = drop (room_for width text) out in
      record {
        told = told_runs width text (length out) may.short may.room;
        answers = rw accepted (take_at (answers_of a s text) behind (bytes_of_answers a s text) long_as_said);
        behind =
            rw accepted
            (drop_at (answers_of a s text) behind (bytes_of_answers a s text) long_as_said
            ∙ ap (λ (n : ℕ). drop (width * n) out) (lines_counted text));
        subject = rw accepted;
      }
