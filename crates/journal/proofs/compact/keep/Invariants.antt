-- At each turn of `compact::keep` one word more has been gone through.
-- Rests on Keeping.
use Rattle.journal.proofs.Keeping.{Keeping}
use Rattle.journal.proofs.compact.keep.Given as goal

abbrev pub invariant-loop-at : goal.invariant-loop-at
invariant-loop-at l = Keeping l.fn.chip l.fn.words l.words l.chip l.at l.kept
