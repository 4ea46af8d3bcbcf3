-- The number of every event.
-- Rests on Numbers.
use Rattle.std.proofs.Common.{refl}
use Rattle.racklaws.proofs.Numbers.{numbered}
use Rattle.racklaws.proofs.first_refusal_has_the_number.Goals as goal

pub returns : goal.returns
returns c = record { number = numbered; while_it_runs = refl; on_a_free_bus = refl }
