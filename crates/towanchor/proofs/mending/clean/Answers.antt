-- `towanchor::mending::clean`: what is kept of the first output, or the number of the refusal, is what the program prints; and it is refused where
-- the text or its clean form is too long.
-- Rests on CleanScript.
use Rattle.std.proofs.Common.{◌∙◌, ap, length, take, drop, take_at, arith}
use Rattle.std.proofs.lemmas.Result.{IfOk-weaker}
use Rattle.towanchor.proofs.CleanScript.{mended, refused}
use Rattle.towanchor.proofs.mending.clean.Goals as goal

pub returns-in-Ok-clause-text : goal.returns-in-Ok-clause-text
returns-in-Ok-clause-text c =
    let left = c.mend.new.clean in
    let whole = take_at left (drop (length left) c.in_ok-clean.clean.items) c.in_ok-clean.clean.len (omega arith) in
    c.front.ensures.text ∙ ap (take c.in-Ok.mended.clean) (whole ∙ c.mend.ensures.clean_after)
    ∙ (mended c.args.text.now c.deref_mut.result.now c.deref_mut-2.result.now (omega arith) (omega arith) c.in-Ok.mended c.in-Ok.ensures.told).0

pub returns-in-Ok-clause-refused : goal.returns-in-Ok-clause-refused
returns-in-Ok-clause-refused c =
    c.front.ensures.refused
    ∙ (mended c.args.text.now c.deref_mut.result.now c.deref_mut-2.result.now (omega arith) (omega arith) c.in-Ok.mended c.in-Ok.ensures.told).1

pub returns-in-Err-clause-refused : goal.returns-in-Err-clause-refused
returns-in-Err-clause-refused c =
    IfOk-weaker c.refusal.result _ _
    (λ printed e. e ∙ (refused c.args.text.now c.deref_mut.result.now c.deref_mut-2.result.now (omega arith) (omega arith) c.in-Err.refusal c.in-Err.ensures.told).1)
    c.refusal.ensures.refused
