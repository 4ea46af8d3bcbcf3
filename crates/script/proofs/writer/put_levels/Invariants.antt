-- The cards that are left are still to be written, with a card less at each turn.
-- Rests on Levels.
use Rattle.script.proofs.Levels.{Showing}
use Rattle.script.proofs.writer.put_levels.Given as goal

abbrev pub invariant-loop-card : goal.invariant-loop-card
invariant-loop-card g l = Showing g.S.Scripted.answerer l.subject l.fn.out l.out l.at l.card
