-- What is said so far is the lines gone through.
use Rattle.std.proofs.Common.{◌≡◌, take, string_bytes}
use Rattle.prints.specs.Strays.{named}
use Rattle.towanchor.proofs.strays.named.Given as goal

abbrev pub invariant-loop-number : goal.invariant-loop-number
invariant-loop-number l = string_bytes l.said ≡ named (take l.number-index l.numbers)
