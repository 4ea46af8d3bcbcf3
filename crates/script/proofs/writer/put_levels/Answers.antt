-- `writer::put_levels` meets its contract: at each turn the cards that are left are still to be written, with a card less.
-- Rests on Levels and the contract of writer::put.
use Rattle.std.proofs.Common.{rules}
use Rattle.script.proofs.Levels.{one_shown, all_shown}
use Rattle.script.proofs.writer.put_levels.Goals as goal

pub loop-card-preserved : goal.loop-card-preserved
loop-card-preserved g c =
    one_shown g.S.Scripted.answerer _ _ _ _ _ c.loop-card.invariant (search rules) _ (search rules)

pub returns-clause-output : goal.returns-clause-output
returns-clause-output g c = (all_shown g.S.Scripted.answerer _ _ _ _ _ c.loop-card.invariant (search rules)).1
