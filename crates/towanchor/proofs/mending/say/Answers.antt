-- `towanchor::mending::say`: of a kept line nothing is said, and of another its number and its sign.
-- Rests on CleanScript.
use Rattle.std.proofs.Common.{rules, ◌∙◌, ap, eqb}
use Rattle.text.specs.Answers.{line_of}
use Rattle.mend.specs.Line.{unfit_sign}
use Rattle.towanchor.proofs.CleanScript.{kept_unsaid, said_so, not_unfit}
use Rattle.towanchor.proofs.mending.say.Goals as goal

pub returns-then-eq-clause-words : goal.returns-then-eq-clause-words
returns-then-eq-clause-words c = search (rules, kept_unsaid c.args.number (line_of c.args.line) _ c.of-sign.ensures.letter (search rules))

pub returns-in-Unfit-clause-words : goal.returns-in-Unfit-clause-words
returns-in-Unfit-clause-words c =
    rw (said_so c.args.number (line_of c.args.line) _ c.of-sign.ensures.letter c.of-sign.ensures.reason (search rules)) c.in_ok-writeln.ensures.bytes

pub returns-in_default : goal.returns-in_default
returns-in_default c =
    record {
      words = rw (said_so c.args.number (line_of c.args.line) _ c.of-sign.ensures.letter c.of-sign.ensures.reason (search rules)) c.in_ok-writeln.ensures.bytes;
      unfit = not_unfit c.of-sign.result c.in_default.not-Unfit ∙ ap (λ sign. eqb sign unfit_sign) c.of-sign.ensures.letter;
    }
