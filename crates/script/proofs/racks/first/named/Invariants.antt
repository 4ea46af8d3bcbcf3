-- The bases that were read and those that are left are the line's.
-- Rests on RackPlacing.
use Rattle.std.specs.Slice.Iter.{chunks_rest, chunks_size}
use Rattle.script.proofs.RackPlacing.{Placed}
use Rattle.script.proofs.racks.first.named.Given as goal

abbrev pub invariant-loop-digits : goal.invariant-loop-digits
invariant-loop-digits l = Placed l.line l.bases.items (chunks_rest l.digits-iterator) (chunks_size l.digits-iterator)
