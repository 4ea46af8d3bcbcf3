-- `line::is_fit` meets its contract: a line that is no wider than a frame is read when it is mended.
-- Rests on Fit, and on the contracts of what it calls.
use Rattle.std.proofs.Common.{◌∙◌, ap, sym}
use Rattle.text.specs.Frames.{is_event, frame_in}
use Rattle.mend.proofs.Fit.{told_event, in_the_room}
use Rattle.mend.proofs.line.is_fit.Goals as goal

pub returns : goal.returns
unfolding frame_in
returns c =
    c.is_some.ensures ∙ sym (told_event c.event.result) ∙ ap is_event c.event.ensures
    ∙ rw c.put.ensures (in_the_room c.args.line.now c.without_cr-bytes.result.now _ c.without_cr-bytes.ensures)
