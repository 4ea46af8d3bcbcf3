-- `towanchor::trim::trimmed`: the words that are kept, as lines, or the number of the refusal; and it is refused as the rule says.
-- Rests on Trimmed.
use Rattle.std.proofs.Common.{◌∙◌, ap, arith, length, take, drop, take_at}
use Rattle.std.proofs.lemmas.Result.{IfOk-weaker}
use Rattle.prints.specs.Trimmed.{word_lines}
use Rattle.towanchor.proofs.Trimmed.{of_accepted, of_refused}
use Rattle.towanchor.proofs.trim.trimmed.Goals as goal

pub returns-in-Ok-clause-text : goal.returns-in-Ok-clause-text
returns-in-Ok-clause-text c =
    let left = c.trim.new.words in
    let whole = take_at left (drop (length left) c.in_ok-log.log.items) c.in_ok-log.log.len (omega arith) in
    c.in_ok-lines-in-Ok.ensures
    ∙ ap word_lines (c.deref.ensures.value ∙ c.truncate.ensures.items ∙ ap (take c.in-Ok.kept) (whole ∙ c.in-Ok.ensures.words_after))
    ∙ (of_accepted c.args.text.now (omega arith) _ (c.deref_mut.ensures.value ∙ c.in_ok-log.ensures) c.in-Ok.kept c.in-Ok.ensures.value).0

pub returns-in-Ok-clause-refused : goal.returns-in-Ok-clause-refused
returns-in-Ok-clause-refused c =
    (of_accepted c.args.text.now (omega arith) _ (c.deref_mut.ensures.value ∙ c.in_ok-log.ensures) c.in-Ok.kept c.in-Ok.ensures.value).1

pub returns-clause-text : goal.returns-clause-text
returns-clause-text c =
    IfOk-weaker c.refusal-in-Err.result _ _
    (λ printed e. e ∙ (of_refused c.args.text.now (omega arith) _ (c.deref_mut.ensures.value ∙ c.in_ok-log.ensures) c.in-Err.refusal c.in-Err.ensures.value).0)
    c.refusal-in-Err.ensures.text

pub returns-clause-refused : goal.returns-clause-refused
returns-clause-refused c =
    IfOk-weaker c.refusal-in-Err.result _ _
    (λ printed e. e ∙ (of_refused c.args.text.now (omega arith) _ (c.deref_mut.ensures.value ∙ c.in_ok-log.ensures) c.in-Err.refusal c.in-Err.ensures.value).1)
    c.refusal-in-Err.ensures.refused
