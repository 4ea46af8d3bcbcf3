-- The text is walked on, with a line less at each turn.
-- Rests on Walking.
use Rattle.text.specs.Answers.{lines_left}
use Rattle.script.proofs.Walking.{Walking}
use Rattle.script.proofs.left.take_all.Given as goal

abbrev pub invariant-loop-line : goal.invariant-loop-line
invariant-loop-line g l = Walking g.S.Scripted.answerer l.fn.subject l.text (lines_left l.line-iterator) l.subject l.refused
