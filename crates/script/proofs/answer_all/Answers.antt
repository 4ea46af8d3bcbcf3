-- `script::answer_all` meets its contract: at each turn the text is under way into the output, with a line less.
-- Rests on Answering, and the contracts of what it calls.
use Rattle.script.proofs.Answering.{room_for_one, goes_on_lem, arrives}
use Rattle.script.proofs.answer_all.Goals as goal

pub write-requires : goal.write-requires
write-requires g c =
    room_for_one g.S.Scripted.answerer _ _ _ c.loop-line.out _ _ _ c.loop-line.at (rw c.in-Some.ensures.steps at c.loop-line.invariant) _ c.take-answer.ensures

pub loop-line-preserved : goal.loop-line-preserved
loop-line-preserved g c =
    rw (c.line_width-width.ensures, c.cards.ensures)
    (goes_on_lem g.S.Scripted.answerer _ _ _ c.loop-line.out _ _ _ c.loop-line.at (rw c.in-Some.ensures.steps at c.loop-line.invariant)
    _ c.take-answer.ensures _ c.write.ensures)

pub returns-clause-output : goal.returns-clause-output
returns-clause-output g c = arrives g.S.Scripted.answerer _ _ _ _ _ _ c.requires (rw c.in-None.ensures.steps.0 at c.loop-line.invariant)
