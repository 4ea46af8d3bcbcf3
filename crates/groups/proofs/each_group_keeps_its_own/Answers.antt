-- What a group keeps under the other's events, and that nothing else belongs to it.
-- Rests on Apart, Kept and NothingElse.
use Rattle.control.specs.declared.Group.TheVariants.{A, B}
use Rattle.fates.specs.Promise.{run}
use Rattle.groups.proofs.Apart.{left_by_history}
use Rattle.groups.proofs.Kept.{kept_by_a, kept_by_b}
use Rattle.groups.proofs.NothingElse.{back_a, back_b}
use Rattle.groups.proofs.each_group_keeps_its_own.Goals as goal

pub returns : goal.returns
returns c = record {
  a = λ c es only. kept_by_a c (run c es) (left_by_history A c es only);
  b = λ c es only. kept_by_b c (run c es) (left_by_history B c es only);
  nothing_else_a = λ c c'. (kept_by_a c c', back_a c c');
  nothing_else_b = λ c c'. (kept_by_b c c', back_b c c');
}
