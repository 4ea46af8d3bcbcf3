-- `lines::count` meets its contract: there are no more lines than bytes, so that their count fits.
-- Rests on LineCount.
use Rattle.std.proofs.Common.{inl, arith}
use Rattle.text.proofs.LineCount.{lines_at_most}
use Rattle.text.proofs.lines.count.Goals as goal

pub count-requires-clause-fits : goal.count-requires-clause-fits
count-requires-clause-fits c =
    let most = lines_at_most c.args.text.now in
    inl (rw c.new.ensures (omega arith))
