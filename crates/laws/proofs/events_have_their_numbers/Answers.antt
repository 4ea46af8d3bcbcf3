-- The facts about cycles, with the limits of each edition in plain numbers.
-- Rests on Cycles, and on the bus's Facts.
use Rattle.std.proofs.Common.{◌≡◌, refl}
use Rattle.bus.specs.Refusals.{limits_of}
use Rattle.bus.specs.Facts.{Facts}
use Rattle.bus.proofs.Facts as bus
use Rattle.chip.specs.declared.Edition.{Edition}
use Rattle.chip.specs.declared.Edition.TheVariants.{Older, Newer}
use Rattle.chip.specs.declared.Chip.{Chip}
use Rattle.chip.specs.Step.{limits, device}
use Rattle.laws.specs.Editions.{addresses_read}
use Rattle.laws.proofs.Cycles.{refusal_changes_nothing, read_answers_lem, no_kind_refused}
use Rattle.laws.proofs.events_have_their_numbers.Goals as goal

-- There are four addresses and three ports; of the addresses three can be read, and of the newer edition all.
in_numbers : (ed : Edition) → limits ed ≡ limits_of 4 (addresses_read ed) 3
in_numbers Older = refl
in_numbers Newer = refl

facts : (c : Chip) → Facts device (limits_of 4 (addresses_read c.edition) 3) c
facts c = bus.facts device (limits_of 4 (addresses_read c.edition) 3) c (in_numbers c.edition)

pub returns : goal.returns
returns c = record { facts = facts; refusal = refusal_changes_nothing; read_answers = read_answers_lem; not_a_kind = no_kind_refused }
