-- `towanchor::answers::answer`: what is kept of the output, or the number of the refusal, is what the program prints; and it is refused where
-- the text is too long. Rests on Answered, and script's Outcome, by which the product of the width and the lines is no more than the output has.
use Rattle.std.proofs.Common.{◌∙◌, refl, ap, ◌*◌, length, take, drop, take_at, arith}
use Rattle.std.proofs.lemmas.Result.{IfOk-weaker}
use Rattle.script.specs.Answers.{answer_width}
use Rattle.script.proofs.Outcome.{answers_fit}
use Rattle.towanchor.proofs.Answered.{answered, refused}
use Rattle.towanchor.proofs.answers.answer.Goals as goal

pub overflow_mul-lines : goal.overflow_mul-lines
overflow_mul-lines c = omega (arith, answers_fit answer_width c.args.text.now (length c.deref_mut.result.now) _ c.in-Ok.ensures.told refl)

pub returns-in-Ok-clause-text : goal.returns-in-Ok-clause-text
returns-in-Ok-clause-text c =
    let left = c.run.new.out in
    let whole = take_at left (drop (length left) c.in_ok-out.out.items) c.in_ok-out.out.len (omega arith) in
    c.front.ensures.text ∙ ap (take (answer_width * c.in-Ok.lines)) (whole ∙ c.run.ensures.output)
    ∙ (answered c.args.text.now c.deref_mut.result.now (omega arith) c.args.device c.in-Ok.lines c.in-Ok.ensures.told).0

pub returns-in-Ok-clause-refused : goal.returns-in-Ok-clause-refused
returns-in-Ok-clause-refused c =
    c.front.ensures.refused ∙ (answered c.args.text.now c.deref_mut.result.now (omega arith) c.args.device c.in-Ok.lines c.in-Ok.ensures.told).1

pub returns-in-Err-clause-refused : goal.returns-in-Err-clause-refused
returns-in-Err-clause-refused c =
    IfOk-weaker c.refusal.result _ _
    (λ answers e. e ∙ (refused c.args.text.now c.deref_mut.result.now (omega arith) c.args.device c.in-Err.refusal c.in-Err.ensures.told).1)
    c.refusal.ensures.refused
