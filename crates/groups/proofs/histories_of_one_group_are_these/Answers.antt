-- Which events are a group's, which histories are of these alone, and what is left of a history without them.
-- Rests on OneGroup.
use Rattle.groups.proofs.OneGroup.{done_on, each_harmless, struck_out}
use Rattle.groups.proofs.histories_of_one_group_are_these.Goals as goal

pub returns : goal.returns
returns c = record {
  event = λ g chip e. done_on chip e g;
  history = λ g chip es. each_harmless g es chip;
  left = λ g chip es. struck_out g es chip;
}
