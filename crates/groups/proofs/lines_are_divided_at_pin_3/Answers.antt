-- Which levels on port C are a group's, and what they leave.
-- Rests on Apart, Kept, OwnLines and Lines.
use Rattle.bus.specs.Histories.{levels}
use Rattle.control.specs.declared.Group.TheVariants.{A, B}
use Rattle.fates.specs.Promise.{run}
use Rattle.groups.proofs.Apart.{left_by_history}
use Rattle.groups.proofs.Kept.{kept_by_a, kept_by_b}
use Rattle.groups.proofs.OwnLines.{own_lines_a, own_lines_b}
use Rattle.groups.proofs.Lines.{lines_in_numbers}
use Rattle.groups.proofs.lines_are_divided_at_pin_3.Goals as goal

pub returns : goal.returns
returns c = record {
  own_b = own_lines_b;
  own_a = own_lines_a;
  a = λ c d same. kept_by_a c (run c (levels 2 d)) (left_by_history A c (levels 2 d) ((own_lines_b c d).1 same));
  b = λ c d same. kept_by_b c (run c (levels 2 d)) (left_by_history B c (levels 2 d) ((own_lines_a c d).1 same));
  computed = lines_in_numbers;
}
