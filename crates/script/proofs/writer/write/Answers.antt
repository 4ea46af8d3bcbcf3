-- `writer::write` meets its contract: its bytes are stored one behind the other.
-- Rests on Stores, Levels, and the contracts of writer::put and writer::put_levels.
use Rattle.std.proofs.Common.{◌≡◌, ◌∙◌, List, [], ◌∷◌, ◌++◌, ℕ, ◌+◌, ◌*◌, set}
use lib.Seq.{sets}
use Rattle.text.specs.Digits.{in_digits}
use Rattle.text.specs.Lines.{lf}
use Rattle.script.specs.Answers.{Answerer, all_levels, line_text, front_digits, card_digits}
use Rattle.script.proofs.Stores.{behind}
use Rattle.script.proofs.Levels.{all_length}
use Rattle.script.proofs.writer.write.Goals as goal

module _ {S : Type 0} (a : Answerer S) (s : S) (number byte : ℕ) (out : List ℕ) where
  abbrev front : List ℕ
  front = in_digits number ++ in_digits byte

  -- The number and the byte, the levels, and LF.
  one_run : set (sets (sets out 0 front) front_digits (all_levels a s)) (front_digits + card_digits * a.cards s) lf ≡ sets out 0 (line_text number byte (all_levels a s))
  unfolding line_text
  one_run =
      rw (← all_length a s)
      (behind (sets out 0 front) front_digits (all_levels a s) (lf ∷ []) ∙ behind out 0 front (all_levels a s ++ (lf ∷ [])))

pub returns : goal.returns
returns g c =
    rw (c.put_levels-end.ensures.output, c.put_levels-end.ensures.place, c.put-2.ensures, c.put.ensures)
    (one_run g.S.Scripted.answerer c.args.subject.now _ _ c.args.out.now)
