-- `left::take_all` meets its contract: no more lines are refused than the text has bytes, so that their count fits.
-- Rests on Walking.
use Rattle.std.proofs.Common.{arith}
use Rattle.script.proofs.Walking.{fits}
use Rattle.script.proofs.left.take_all.Goals as goal

pub overflow_add-refused : goal.overflow_add-refused
overflow_add-refused g c = omega (arith, fits g.S.Scripted.answerer _ _ _ _ _ c.loop-line.invariant)
