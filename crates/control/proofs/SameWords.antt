-- Two mode words that say the same of each group and of each half of port C.
-- Rests on nothing.
use Rattle.std.proofs.Common.{◌≡◌, ℕ}
use Rattle.control.specs.declared.Group.{Group}
use Rattle.control.specs.Mode.{mode_of, input_of, upper_input, lower_input, strobed_input, strobed_output}

pub record SayTheSame (v w : ℕ) : Type 0 where
  pub mode : (g : Group) → mode_of v g ≡ mode_of w g
  pub input : (g : Group) → input_of v g ≡ input_of w g
  pub upper : upper_input v ≡ upper_input w
  pub lower : lower_input v ≡ lower_input w

-- They strobe the same ports.
pub same_taking : {v w : ℕ} → SayTheSame v w → (g : Group) → strobed_input v g ≡ strobed_input w g
unfolding strobed_input
same_taking same g = rw (same.mode g, same.input g)

pub same_giving : {v w : ℕ} → SayTheSame v w → (g : Group) → strobed_output v g ≡ strobed_output w g
unfolding strobed_output
same_giving same g = rw (same.mode g, same.input g)
