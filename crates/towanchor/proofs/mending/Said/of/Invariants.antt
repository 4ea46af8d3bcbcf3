-- What is said so far, and what is still to be said of the lines that are left, is what is said of all; and so of whether one is unfit.
use Rattle.std.proofs.Common.{◌≡◌, ◌+◌, ◌++◌, string_bytes, ◌||◌}
use Rattle.std.specs.List.{list_any}
use Rattle.text.specs.Answers.{lines_left}
use Rattle.prints.specs.Mended.{said_from, said_of_all, is_unfit, has_unfit}
use Rattle.towanchor.proofs.mending.Said.of.Given as goal

abbrev pub invariant-loop-at : goal.invariant-loop-at
invariant-loop-at l =
    (string_bytes l.words ++ said_from (l.at-iterator.count + 1) (lines_left l.at-iterator.iter) ≡ said_of_all l.text)
    × ((l.unfit || list_any is_unfit (lines_left l.at-iterator.iter)) ≡ has_unfit l.text)
