-- A line means the frame that it is when it is mended.
-- Rests on Steps.
use Rattle.mend.specs.Line.{bytes_of, mended}
use Rattle.mendlaws.proofs.Steps.{mends, alone, fit, unfit}
use Rattle.mendlaws.proofs.fit_lines_mean_the_same.Goals as goal

pub returns : goal.returns
returns c l = record { bytes = mended (bytes_of l); mends = mends l; alone = alone l; fit = fit l; unfit = unfit l }
