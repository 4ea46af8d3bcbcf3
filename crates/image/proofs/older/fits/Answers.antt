-- `older::fits` meets its contract: the bus, and then the rest as an image's.
-- Rests on MovedBytes.
use Rattle.std.proofs.Common.{sym}
use Rattle.image.proofs.MovedBytes.{moved_fits}
use Rattle.image.proofs.older.fits.Goals as goal

pub returns-then-cycle : goal.returns-then-cycle
returns-then-cycle c = rw (c.good.ensures, sym c.cycle.ensures, c.if-cycle.true, c.moved-moved.ensures, moved_fits c.args.image.now)

pub returns-else-cycle : goal.returns-else-cycle
returns-else-cycle c = rw (sym c.cycle.ensures, c.if-cycle.false)
