-- The facts about cycles, of a rack.
-- Rests on Cycles.
use Rattle.racklaws.proofs.Cycles.{facts, run_as_device}
use Rattle.racklaws.proofs.facts_about_cycles_hold_of_racks.Goals as goal

pub returns : goal.returns
returns c = record { facts = facts; histories = run_as_device }
