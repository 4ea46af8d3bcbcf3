-- The numbers so far, and those of the lines that are left, are all.
use Rattle.std.proofs.Common.{◌≡◌, ◌+◌, ◌++◌}
use Rattle.text.specs.Answers.{lines_left}
use Rattle.prints.specs.Strays.{strays_from, strays_of}
use Rattle.towanchor.proofs.strays.strays_of.Given as goal

abbrev pub invariant-loop-at : goal.invariant-loop-at
invariant-loop-at l = l.strays.items ++ strays_from (l.at-iterator.count + 1) (lines_left l.at-iterator.iter) ≡ strays_of l.text
