-- The signs are under way into the output, with one less at each turn.
-- Rests on Filling.
use Rattle.std.proofs.Common.{List, [], ◌∷◌, ℕ}
use Rattle.text.specs.Lines.{Line, lines_of}
use Rattle.text.specs.Answers.{lines_left}
use Rattle.mend.specs.Line.{sign_of}
use Rattle.mend.proofs.Filling.{UnderWay}
use Rattle.mend.proofs.report.write.Given as goal

-- What a line puts there.
abbrev pub put : Line → List ℕ
put l = sign_of l ∷ []

abbrev pub invariant-loop-at : goal.invariant-loop-at
invariant-loop-at l = UnderWay put (lines_of l.text) l.fn.out l.out (lines_left l.at-iterator.iter) l.at-iterator.count
