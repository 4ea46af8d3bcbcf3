-- `script::run_from` meets its contract: no more lines are counted than the text has bytes, so that their width fits.
-- Rests on text's LineCount.
use Rattle.std.proofs.Common.{arith}
use Rattle.std.proofs.lemmas.Nat.{mul-le}
use Rattle.text.proofs.LineCount.{lines_at_most}
use Rattle.script.proofs.run_from.Goals as goal

pub overflow_mul-line_width : goal.overflow_mul-line_width
overflow_mul-line_width g c =
    let few = lines_at_most c.args.text.now in
    omega (arith, mul-le c.line_width.result c.count-lines.result 1535 4096 (omega (arith, c.line_width.ensures)) (omega (arith, c.count-lines.ensures, few)))
