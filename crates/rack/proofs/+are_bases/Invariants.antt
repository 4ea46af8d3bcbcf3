-- `are_bases` calls itself with fewer bases.
use Rattle.std.proofs.Common.{length}
use Rattle.rack.proofs.+are_bases.Given as goal

abbrev pub decreases-are_bases : goal.decreases-are_bases
decreases-are_bases l = length l.bases.now
