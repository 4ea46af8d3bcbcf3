-- Lines become one thing and one alone.
-- Rests on AllLines and OneLine, and on mend's Cleaning.
use Rattle.std.proofs.Common.{map}
use mathlib.Core.List.{flat_map}
use Rattle.mend.specs.Line.{sign_of}
use Rattle.mend.proofs.Cleaning.{clean_in}
use Rattle.mendlaws.proofs.OneLine.{events_of}
use Rattle.mendlaws.proofs.AllLines.{all_become, all_only}
use Rattle.mendlaws.proofs.lines_become_one_thing.Goals as goal

pub returns : goal.returns
returns c ls = record {
  signs = map sign_of ls;
  clean = flat_map clean_in ls;
  events = flat_map events_of ls;
  become = all_become ls;
  alone = all_only;
}
