-- The end of a cycle.
-- Rests on OneEnd, and on chip's Ends.
use Rattle.std.proofs.Common.{ℕ}
use Rattle.chip.specs.declared.Chip.{Chip}
use Rattle.chip.proofs.Ends.{idle_ends_nothing}
use Rattle.laws.specs.Ends.{CycleEnds}
use Rattle.laws.proofs.OneEnd.{cycle_ends_lem, read_end_spares_outputs, write_end_spares_inputs, four_is_no_kind}
use Rattle.laws.proofs.one_event_ends_every_cycle.Goals as goal

ends : (c : Chip) (x d : ℕ) → CycleEnds c x d
ends c x d = record {
  freed = cycle_ends_lem c x d;
  read_spares = λ p. read_end_spares_outputs c p x d;
  write_spares = λ a b g. write_end_spares_inputs c a b x d g;
}

pub returns : goal.returns
returns c = record { ends = ends; idle = idle_ends_nothing; no_other = four_is_no_kind }
