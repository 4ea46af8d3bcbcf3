-- `towanchor::racks::answer`: what is kept of the output, or the number of the refusal, is what the program prints; and it is refused where the
-- rule says. Rests on AnsweredByRack.
use Rattle.std.proofs.Common.{◌∙◌, ap, length, take, drop, take_at, arith}
use Rattle.std.proofs.lemmas.Result.{IfOk-weaker}
use Rattle.towanchor.proofs.AnsweredByRack.{answered, refused}
use Rattle.towanchor.proofs.racks.answer.Goals as goal

pub returns-in-Ok-clause-text : goal.returns-in-Ok-clause-text
returns-in-Ok-clause-text c =
    let left = c.run.new.out in
    let whole = take_at left (drop (length left) c.in_ok-out.out.items) c.in_ok-out.out.len (omega arith) in
    c.front.ensures.text ∙ ap (take c.in-Ok.ran.length) (whole ∙ c.run.ensures.output)
    ∙ (answered c.args.text.now c.deref_mut.result.now (omega arith) c.in-Ok.ran c.in-Ok.ensures.told).0

pub returns-in-Ok-clause-refused : goal.returns-in-Ok-clause-refused
returns-in-Ok-clause-refused c =
    c.front.ensures.refused ∙ (answered c.args.text.now c.deref_mut.result.now (omega arith) c.in-Ok.ran c.in-Ok.ensures.told).1

pub returns-in-Err-clause-refused : goal.returns-in-Err-clause-refused
returns-in-Err-clause-refused c =
    IfOk-weaker c.refusal.result _ _
    (λ printed e. e ∙ (refused c.args.text.now c.deref_mut.result.now (omega arith) c.in-Err.refusal c.in-Err.ensures.told).1)
    c.refusal.ensures.refused
