-- The text is under way into the output, with a line less at each turn.
-- Rests on Answering.
use Rattle.text.specs.Answers.{lines_left}
use Rattle.script.proofs.Answering.{UnderWay}
use Rattle.script.proofs.answer_all.Given as goal

abbrev pub invariant-loop-line : goal.invariant-loop-line
invariant-loop-line g l =
    UnderWay g.S.Scripted.answerer l.fn.subject l.text l.fn.out l.out (lines_left l.line-iterator) l.subject l.at
