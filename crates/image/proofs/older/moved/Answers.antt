-- `older::moved` meets its contract, part by part.
-- Rests on MovedBytes.
use Rattle.std.proofs.Common.{rules}
use Rattle.image.proofs.MovedBytes.{all_parts}
use Rattle.image.proofs.older.moved.Goals as goal

pub returns : goal.returns
returns c =
    rw (c.put-6.ensures, c.put-5.ensures, c.put-4.ensures, c.put-3.ensures, c.put-2.ensures, c.put.ensures)
    (all_parts c.args.older.now (search rules))
