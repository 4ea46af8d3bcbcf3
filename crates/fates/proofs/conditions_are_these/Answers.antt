-- The other conditions, in numbers.
-- Rests on Conditions.
use Rattle.fates.proofs.Conditions.{latch_is_told, waits_in, waits_out, sixteen_bits, comes_out, never_raised, placed}
use Rattle.fates.proofs.conditions_are_these.Goals as goal

pub returns : goal.returns
returns c = record {
  never_raised = never_raised;
  waits_in = waits_in;
  waits_out = waits_out;
  latch = latch_is_told;
  sixteen_bits = sixteen_bits;
  balanced = comes_out;
  in_order = placed;
}
