-- What cycles make of INTR.
-- Rests on CyclesDrop.
use Rattle.laws.proofs.CyclesDrop.{half_after, intr_after, begun_read_runs, begun_write_runs}
use Rattle.laws.proofs.cycles_drop_their_own_half.Goals as goal

pub returns : goal.returns
returns c = record { halves = half_after; interrupt = intr_after; read_runs = begun_read_runs; write_runs = begun_write_runs }
