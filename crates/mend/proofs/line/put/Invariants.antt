-- The bytes are under way into the output, with one less at each turn.
-- Rests on Filling.
use Rattle.std.proofs.Common.{List, [], ◌∷◌, ℕ, drop}
use Rattle.mend.specs.Line.{raised}
use Rattle.mend.proofs.Filling.{UnderWay}
use Rattle.mend.proofs.line.put.Given as goal

-- What a byte puts there.
abbrev pub put : ℕ → List ℕ
put b = raised b ∷ []

abbrev pub invariant-loop-at : goal.invariant-loop-at
invariant-loop-at l = UnderWay put l.bytes l.fn.out l.out (drop l.at l.bytes) l.at
