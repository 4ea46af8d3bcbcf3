-- `towanchor::quiet::explain`: where a text was not run, that is printed.
-- Rests on Explained.
use Rattle.std.proofs.Common.{◌∙◌}
use Rattle.towanchor.proofs.Explained.{of_none}
use Rattle.towanchor.proofs.quiet.explain.Goals as goal

pub returns-in_ok-format-in-Err-clause-text : goal.returns-in_ok-format-in-Err-clause-text
returns-in_ok-format-in-Err-clause-text c =
    rw c.into_bytes-in-Err.ensures.value (c.in_ok-format-in-Err.ensures.ok ∙ of_none c.args.text.now c.in-Err.refusal c.in-Err.ensures)
