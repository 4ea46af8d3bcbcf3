-- `signs::is_kind` meets its contract, by the number that the two digits write.
-- Rests on the bus's ByKind, text's Said and Unfit, and on the contracts of what it calls.
use Rattle.std.proofs.Common.{◌∙◌, ap, sym, rules, is_some, arith}
use Rattle.bus.specs.Kinds.{is_kind}
use Rattle.bus.specs.Answers.{kind_numbered}
use Rattle.bus.proofs.ByKind.{none_above}
use Rattle.text.specs.Digits.{no_byte, pair_value}
use Rattle.text.specs.Frames.{leading_byte}
use Rattle.text.proofs.Said.{byte_there, none_there}
use Rattle.mend.specs.Line.{raised}
use Rattle.mend.proofs.Unfit.{kind_found}
use Rattle.mend.proofs.signs.is_kind.Goals as goal

pub returns-in-Some : goal.returns-in-Some
unfolding leading_byte
returns-in-Some c =
    let n = byte_there (pair_value (raised c.args.high) (raised c.args.low)) (search rules) in
    c.is_some.ensures ∙ ap is_some c.numbered.ensures ∙ ap (λ n. is_some (kind_numbered n)) c.from.ensures ∙ kind_found c.in-Some.number ∙ ap is_kind n.0

pub returns-in-None : goal.returns-in-None
unfolding leading_byte
returns-in-None c =
    let above = none_there no_byte (pair_value (raised c.args.high) (raised c.args.low)) (search rules) in
    sym (none_above _ (omega (arith, above)))
