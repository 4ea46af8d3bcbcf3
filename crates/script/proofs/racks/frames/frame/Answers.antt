-- `frames::frame` meets its contract: the event of a kind that is there, with exactly its operands, is what the line says. As for the frame of a
-- device, but of a rack's own words: other definitions, with a third operand.
-- Rests on the bus's ByKind, on text's Said, and on RackSaid.
use Rattle.std.proofs.Common.{rules, ◌≡◌, ◌∙◌, sym, ap, length, ◌+◌, ◌*◌}
use Rattle.bus.specs.Answers.{kind_number, kind_numbered}
use Rattle.bus.proofs.ByKind.{kind_back, none_back}
use Rattle.text.specs.Digits.{no_byte}
use Rattle.text.specs.Frames.{kind_in, first_in, second_in}
use Rattle.text.proofs.Said.{byte_there, none_there}
use Rattle.script.specs.RackFrames.{third_in, operand_bytes, event_named, is_rack_frame, rack_frame_of, rack_frame_told}
use Rattle.script.proofs.RackSaid.{no_kind_told, told_by_kind}
use Rattle.script.proofs.racks.frames.frame.Goals as goal

pub returns-in_err-number : goal.returns-in_err-number
returns-in_err-number c =
    let line = c.args.line.now in
    let told = no_kind_told line (none_there no_byte (kind_in line) (search rules)) in
    search (rules, told)

pub returns-in_err-kind : goal.returns-in_err-kind
unfolding rack_frame_of is_rack_frame
returns-in_err-kind c =
    let line = c.args.line.now in
    let k = byte_there (kind_in line) c.in_ok-number.ensures in
    let none = none_back (kind_in line) (sym c.in_err-kind.was ∙ c.numbered.ensures ∙ ap kind_numbered (c.from.ensures ∙ k.0)) in
    rw (c.from_residual-in_err-kind.ensures, none)

pub returns : goal.returns
returns c =
    let line = c.args.line.now in
    let k = byte_there (kind_in line) c.in_ok-number.ensures in
    let x = byte_there (first_in line) c.in_ok-first.ensures in
    let y = byte_there (second_in line) c.in_ok-second.ensures in
    let z = byte_there (third_in line) c.in_ok-third.ensures in
    let kind = kind_back (kind_in line) c.in_ok-kind.kind (sym c.in_ok-kind.was ∙ c.numbered.ensures ∙ ap kind_numbered (c.from.ensures ∙ k.0)) in
    let exact : length line ≡ 2 + 2 * operand_bytes (kind_in line) = rw (← kind.0, ← c.operand_bytes.ensures, ← c.from-2.ensures) c.if-line-from.false in
    let says : rack_frame_told (event_named (kind_number c.in_ok-kind.kind) c.in_ok-first.first c.in_ok-second.second c.in_ok-third.third) ≡ rack_frame_of line =
    rw (kind.0, x.0, y.0, z.0) (told_by_kind line exact x.1 y.1 z.1) in
    ap rack_frame_told c.named.ensures ∙ says
