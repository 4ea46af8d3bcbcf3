-- In mode 2 the direction is ignored: whatever it says, the group is strobed both ways and stores what is written ("Mode words").
-- Rests on nothing.
use Rattle.std.proofs.Common.{◌≡◌, true, ℕ}
use Rattle.control.specs.declared.Group.{Group}
use Rattle.control.specs.Mode.{mode_of, strobed_input, strobed_output, output_of}

pub record BothWays (w : ℕ) (g : Group) : Type 0 where
  pub taking : strobed_input w g ≡ true
  pub giving : strobed_output w g ≡ true
  pub storing : output_of w g ≡ true

pub mode_2_both_ways : (w : ℕ) (g : Group) → mode_of w g ≡ 2 → BothWays w g
unfolding strobed_input strobed_output output_of
mode_2_both_ways w g two = record { taking = rw two; giving = rw two; storing = rw two }
