-- `clean::put_line` meets its contract: of a fit line its bytes are put, raised, and LF.
-- Rests on Cleaning and the contracts of what it calls.
use Rattle.std.proofs.Common.{◌∙◌, rules}
use Rattle.mend.proofs.Cleaning.{line_put}
use Rattle.mend.proofs.clean.put_line.Goals as goal

pub returns-clause-out_after : goal.returns-clause-out_after
returns-clause-out_after c =
    c.put.ensures ∙ rw (c.without_cr-bytes.ensures) (line_put c.args.line.now (search rules) c.args.out.now)
