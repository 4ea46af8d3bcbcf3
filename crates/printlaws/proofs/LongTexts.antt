-- Of a text that is too long 06 is printed, whoever answers.
-- Rests on nothing.
use Rattle.std.proofs.Common.{◌≡◌, ℕ, ◌<◌, List, [], ◌∷◌, length, refl, lt-ltb}
use Rattle.text.specs.Digits.{digit_code}
use Rattle.prints.specs.declared.Device.{Device}
use Rattle.prints.specs.declared.Device.TheVariants.{I8255A, I82C55A, I8355}
use Rattle.prints.specs.Printed.{printed_by, printed, printed_of_rack}

module _ (text : List ℕ) (more : 4096 < length text) where
  pub by_device : (device : Device) → printed device text ≡ 0x30 ∷ 0x36 ∷ 0x0a ∷ []
  unfolding printed printed_by digit_code
  by_device I8255A = rw (lt-ltb 4096 (length text) more) refl
  by_device I82C55A = rw (lt-ltb 4096 (length text) more) refl
  by_device I8355 = rw (lt-ltb 4096 (length text) more) refl

  pub by_rack : printed_of_rack text ≡ 0x30 ∷ 0x36 ∷ 0x0a ∷ []
  unfolding printed_of_rack digit_code
  by_rack = rw (lt-ltb 4096 (length text) more) refl
