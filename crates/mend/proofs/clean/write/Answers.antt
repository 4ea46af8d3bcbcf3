-- `clean::write` meets its contract: at each turn the lines are under way into the output, with one less.
-- Rests on Filling and Cleaning, and on the contracts of what it calls.
use Rattle.std.proofs.Common.{◌≡◌, ap}
use Rattle.text.specs.Answers.{line_of}
use Rattle.mend.specs.Line.{clean_line}
use Rattle.mend.specs.Mend.{clean_of}
use Rattle.mend.proofs.Filling.{room_for_one, lent, arrives}
use Rattle.mend.proofs.Cleaning.{clean_in, bytes_got}
use Rattle.mend.proofs.clean.write.Goals as goal
use Rattle.mend.proofs.clean.write.Goals.{After-bytes}

-- What is put of the line that was taken.
put : (c : goal.After-bytes) → clean_line c.bytes.result.now ≡ clean_in (line_of c.in-Some.line)
put c = ap clean_line (bytes_got c.in-Some.line _ c.bytes.ensures)

pub put_line-at-requires : goal.put_line-at-requires
put_line-at-requires c =
    let now = put (goal.at.put_line-at-requires c).After-bytes in
    rw (now) (room_for_one clean_in _ _ c.loop-line.out _ _ c.loop-line.at (rw c.in-Some.ensures.steps at c.loop-line.invariant))

pub loop-line-preserved : goal.loop-line-preserved
loop-line-preserved c =
    let now = put (goal.at.loop-line-preserved c).After-bytes in
    lent clean_in _ _ c.loop-line.out _ _ c.loop-line.at (rw c.in-Some.ensures.steps at c.loop-line.invariant) _ _
    (rw (now) at c.put_line-at.ensures.value) (rw (now) at c.put_line-at.ensures.out_after)

pub returns : goal.returns
unfolding clean_of
returns c = arrives clean_in _ _ _ _ (rw c.in-None.ensures.steps.0 at c.loop-line.invariant)
