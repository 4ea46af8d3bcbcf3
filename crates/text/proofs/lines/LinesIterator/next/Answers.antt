-- `Lines` gives the lines of its text: what stands before the first LF is one and ended. Where no LF is left the proof needs no answer.
-- Rests on FirstLine.
use Rattle.std.proofs.Common.{ap, rules, ◌+◌, length}
use Rattle.std.proofs.lemmas.List.{take_rest}
use Rattle.text.proofs.FirstLine.{line_ended}
use Rattle.text.proofs.lines.LinesIterator.next.Goals as goal

pub returns-in-Some-clause-steps : goal.returns-in-Some-clause-steps
returns-in-Some-clause-steps c =
    let text = c.args.self.now.text.now in
    let end = c.in-Some.end in
    rw (take_rest text (end + 1)) (line_ended text end (search rules) (search rules) (search rules))

pub returns-in-Some-clause-goes : goal.returns-in-Some-clause-goes
returns-in-Some-clause-goes c =
    let text = c.args.self.now.text.now in
    let end = c.in-Some.end in
    let fewer = ap length (line_ended text end (search rules) (search rules) (search rules)) in
    rw (take_rest text (end + 1)) (search rules)
