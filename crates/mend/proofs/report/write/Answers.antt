-- `report::write` meets its contract: at each turn the signs are under way into the output, with one less.
-- Rests on Filling, and on the contracts of what it calls.
use Rattle.std.proofs.Common.{refl}
use lib.ListN.{length-map}
use Rattle.text.specs.Lines.{lines_of}
use Rattle.mend.specs.Line.{sign_of}
use Rattle.mend.specs.Mend.{report_of}
use Rattle.mend.proofs.Filling.{starts, stored, arrives, one_each_lem}
use Rattle.mend.proofs.report.write.Invariants.{put}
use Rattle.mend.proofs.report.write.Goals as goal

pub loop-at-init : goal.loop-at-init
loop-at-init c =
    let ls = lines_of c.args.text.now in
    rw (c.into_iter-at-iterator.ensures.into_iter_gives, c.enumerate-at-items.ensures.source, c.enumerate-at-items.ensures.count, c.new.ensures)
    (starts put ls c.args.out.now (rw (one_each_lem sign_of ls, length-map ls sign_of) c.requires))

pub loop-at-preserved : goal.loop-at-preserved
loop-at-preserved c =
    let s = c.in-Some.ensures.steps in
    rw (c.letter.ensures, c.of.ensures.letter, s.2, s.1)
    (stored put _ _ c.loop-at.out _ _ c.loop-at.at-iterator.count (rw s.0 at c.loop-at.invariant) _ refl)

pub returns : goal.returns
unfolding report_of
returns c =
    let all = arrives put _ _ _ _ (rw c.in-None.ensures.steps.0.0 at c.loop-at.invariant) in
    rw (one_each_lem sign_of (lines_of c.args.text.now)) at all
