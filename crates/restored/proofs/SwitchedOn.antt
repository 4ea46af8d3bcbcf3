-- What a power-up leaves in 96 bytes.
-- Rests on nothing.
use Rattle.std.proofs.Common.{◌≡◌, List, ℕ, zero, suc, ◌≤◌, arith, length, eq-eqb}
use Rattle.bits.specs.Bit.{value_of}
use Rattle.image.specs.Layout.{image_of}
use Rattle.image.specs.Slices.{saved_in}
use Rattle.calls.specs.Calls.{power_up_as_image}
use Rattle.restored.specs.SwitchedOn.{switched_on, SwitchesOn}

module _ (l : List ℕ) (long : length l ≡ 96) where
  named : (ed a b c : ℕ) → ed ≤ 1 → power_up_as_image l ed a b c ≡ switched_on ed a b c
  unfolding power_up_as_image saved_in image_of value_of
  named zero a b c few = rw (eq-eqb (length l) 96 long)
  named (suc zero) a b c few = rw (eq-eqb (length l) 96 long)
  named (suc (suc ed)) a b c few = absurd (omega (arith, few))

  pub switches_on : SwitchesOn l
  unfolding power_up_as_image
  switches_on = record { edition_named = named; levels_named = λ a b c. named 0 a b c (omega arith); none_named = named 0 0 0 0 (omega arith) }
