-- What is put so far is the words gone through, as lines.
use Rattle.std.proofs.Common.{◌≡◌, take}
use Rattle.prints.specs.Trimmed.{word_lines}
use Rattle.towanchor.proofs.trim.lines.Given as goal

abbrev pub invariant-loop-word : goal.invariant-loop-word
invariant-loop-word l = l.out.items ≡ word_lines (take l.word-index l.words)
