-- The end of a cycle at a place that has none.
-- Rests on Unreached.
use Rattle.std.proofs.Common.{ℕ}
use Rattle.chip.specs.declared.Chip.{Chip}
use Rattle.laws.specs.Ends.{EndsNowhere}
use Rattle.laws.proofs.Unreached.{read_of_no_port_ends, write_to_no_address_ends}
use Rattle.laws.proofs.cycles_nowhere_end_without_effect.Goals as goal

ends : (c : Chip) (x d : ℕ) → EndsNowhere c x d
ends c x d = record { read = λ p. read_of_no_port_ends c p x d; write = λ a b. write_to_no_address_ends c a b x d }

pub returns : goal.returns
returns c = ends
