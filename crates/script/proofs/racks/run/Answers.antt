-- `script::racks::run` meets its contract: refused, and the output is left, or the run of the rack, with what stands behind the first line.
-- Rests on RackOpened, and the contracts of what it calls.
use Rattle.std.proofs.Common.{◌≡◌, ◌∙◌, rules, ◌∷◌, Ok, arith}
use Rattle.text.specs.Lines.{lines_of}
use Rattle.text.specs.Answers.{line_of, lines_left}
use Rattle.script.specs.RackBases.{rack_of_line}
use Rattle.script.specs.RackRun.{output_left}
use Rattle.script.proofs.RackOpened.{told_as, same_output, not_run, has_run, fits}
use Rattle.script.proofs.racks.run.Goals as goal
use Rattle.script.proofs.racks.run.Goals.{In_ok-rack, After-run_from}

-- The text is its first line and those that are left, and the first line is a rack.
begins : (c : goal.In_ok-rack)
    → (lines_of c.args.text.now ≡ line_of c.in_ok-first.first ∷ lines_left c.next.new.self) × (rack_of_line (line_of c.in_ok-first.first) ≡ Ok c.in_ok-rack.field-0)
begins c = ((search rules), (search rules))

-- Refused or not, the output is left as the run of the further lines leaves it.
left_so : (c : goal.After-run_from) → c.run_from.new.out ≡ output_left c.args.text.now c.args.out.now
left_so c =
    let found = begins (goal.at.After-run_from c).In_ok-rack in
    c.run_from.ensures.output ∙ same_output c.args.text.now _ c.args.out.now _ c.in_ok-rack.field-0 (omega arith) found.0 found.1

pub returns-in_err-lines-clause-told : goal.returns-in_err-lines-clause-told
returns-in_err-lines-clause-told c =
    let found = begins (goal.at.returns-in_err-lines-clause-told c).In_ok-rack in
    told_as c.from_residual-in_err-lines.result _ c.from_residual-in_err-lines.ensures.1
    ∙ not_run c.args.text.now _ c.args.out.now _ c.in_ok-rack.field-0 (omega arith) found.0 found.1 _ c.in_err-lines.ensures.told

pub returns-in_err-lines-clause-output : goal.returns-in_err-lines-clause-output
returns-in_err-lines-clause-output c = left_so (goal.at.returns-in_err-lines-clause-output c).After-run_from

pub overflow_mul-result : goal.overflow_mul-result
overflow_mul-result c =
    let found = begins (goal.at.overflow_mul-result c).In_ok-rack in
    let room = fits c.args.text.now _ c.args.out.now _ c.in_ok-rack.field-0 (omega arith) found.0 found.1 _ c.in_ok-lines.ensures.told in
    rw (c.line_width-width.ensures, c.cards.ensures) (omega (arith, room))

pub returns-clause-told : goal.returns-clause-told
returns-clause-told c =
    let found = begins (goal.at.returns-clause-told c).In_ok-rack in
    rw (c.line_width-width.ensures, c.cards.ensures)
    (has_run c.args.text.now _ c.args.out.now _ c.in_ok-rack.field-0 (omega arith) found.0 found.1 _ c.in_ok-lines.ensures.told)

pub returns-clause-output : goal.returns-clause-output
returns-clause-output c = left_so (goal.at.returns-clause-output c).After-run_from
