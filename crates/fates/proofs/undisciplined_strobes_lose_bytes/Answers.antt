-- What the discipline forbids, and the bytes that are lost by it.
-- Rests on Harm.
use Rattle.fates.proofs.Harm.{overwrites, swallows_next, swallows}
use Rattle.fates.proofs.undisciplined_strobes_lose_bytes.Goals as goal

pub returns : goal.returns
returns c = record { waiting = overwrites; fetching = swallows_next; empty = swallows }
