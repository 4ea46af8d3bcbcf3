-- The lines are under way into the output, with one less at each turn.
-- Rests on Filling and Cleaning.
use Rattle.text.specs.Lines.{lines_of}
use Rattle.text.specs.Answers.{lines_left}
use Rattle.mend.proofs.Filling.{UnderWay}
use Rattle.mend.proofs.Cleaning.{clean_in}
use Rattle.mend.proofs.clean.write.Given as goal

abbrev pub invariant-loop-line : goal.invariant-loop-line
invariant-loop-line l = UnderWay clean_in (lines_of l.text) l.fn.out l.out (lines_left l.line-iterator) l.at
