-- `line::event` meets its contract: the event of a kind that is there, with exactly its operands, is what the line says.
-- Rests on the bus's ByKind and on Said.
use Rattle.std.proofs.Common.{rules, ◌≡◌, ◌∙◌, sym, ap, length, ◌+◌, ◌*◌}
use Rattle.bus.specs.Kinds.{operands_of}
use Rattle.bus.specs.Answers.{kind_numbered}
use Rattle.bus.proofs.ByKind.{kind_back, none_back}
use Rattle.text.specs.Digits.{no_byte}
use Rattle.text.specs.Frames.{kind_in, first_in, second_in, is_frame, frame_of}
use Rattle.text.proofs.Said.{byte_there, none_there, no_kind_told, told_by_kind}
use Rattle.text.proofs.line.event.Goals as goal

pub returns-in_err-number : goal.returns-in_err-number
returns-in_err-number c =
    let line = c.args.line.now in
    let told = no_kind_told line (none_there no_byte (kind_in line) (search rules)) in
    search (rules, told)

pub returns-in_err-kind : goal.returns-in_err-kind
unfolding frame_of is_frame
returns-in_err-kind c =
    let line = c.args.line.now in
    let k = byte_there (kind_in line) c.in_ok-number.ensures in
    let none = none_back (kind_in line) (sym c.in_err-kind.was ∙ c.numbered.ensures ∙ ap kind_numbered (c.from.ensures ∙ k.0)) in
    rw (c.from_residual-in_err-kind.ensures, none)

pub returns : goal.returns
returns c =
    let line = c.args.line.now in
    let k = byte_there (kind_in line) c.in_ok-number.ensures in
    let x = byte_there (first_in line) c.in_ok-first.ensures in
    let d = byte_there (second_in line) c.in_ok-second.ensures in
    let kind = kind_back (kind_in line) c.in_ok-kind.kind (sym c.in_ok-kind.was ∙ c.numbered.ensures ∙ ap kind_numbered (c.from.ensures ∙ k.0)) in
    let exact : length line ≡ 2 + 2 * operands_of (kind_in line) = rw (← kind.0, ← c.operands.ensures, ← c.from-2.ensures) c.if-line-from.false in
    rw (c.numbered-2.ensures, k.0, x.0, d.0) (told_by_kind line exact x.1 d.1)
