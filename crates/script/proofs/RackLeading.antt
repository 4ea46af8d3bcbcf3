-- The base that digits write, by how many there are: four and more, or fewer.
-- Rests on nothing.
use Rattle.std.proofs.Common.{◌≡◌, refl, List, [], ◌∷◌, ℕ, ◌+◌, ◌*◌, ◌≤◌, ◌<◌, arith, lt-ltb, le-ltb, length, drop}
use Rattle.text.specs.Digits.{no_byte}
use Rattle.text.specs.Frames.{leading_byte}
use Rattle.script.specs.RackBases.{base_digits, no_base, base_of, leading_base}

pub few : (codes : List ℕ) → length codes < base_digits → no_base ≡ leading_base codes
unfolding leading_base
few [] h = refl
few (a ∷ []) h = refl
few (a ∷ b ∷ []) h = refl
few (a ∷ b ∷ c ∷ []) h = refl
few (a ∷ b ∷ c ∷ d ∷ later) h = absurd (omega (arith, h))

-- Four codes are two bytes.
four : (codes : List ℕ) → base_digits ≤ length codes → base_of (leading_byte codes) (leading_byte (drop 2 codes)) ≡ leading_base codes
unfolding leading_base leading_byte
four [] h = absurd (omega (arith, h))
four (a ∷ []) h = absurd (omega (arith, h))
four (a ∷ b ∷ []) h = absurd (omega (arith, h))
four (a ∷ b ∷ c ∷ []) h = absurd (omega (arith, h))
four (a ∷ b ∷ c ∷ d ∷ later) h = refl

module _ (codes : List ℕ) (enough : base_digits ≤ length codes) where
  -- No base, where either of them is no byte; else the number of the two.
  pub no_high : no_byte ≤ leading_byte codes → no_base ≡ leading_base codes
  unfolding base_of
  no_high none = rw (le-ltb (leading_byte codes) no_byte none) at (four codes enough)

  pub no_low : leading_byte codes < no_byte → no_byte ≤ leading_byte (drop 2 codes) → no_base ≡ leading_base codes
  unfolding base_of
  no_low high none =
      rw (lt-ltb (leading_byte codes) no_byte high, le-ltb (leading_byte (drop 2 codes)) no_byte none) at (four codes enough)

  pub both_bytes : leading_byte codes < no_byte → leading_byte (drop 2 codes) < no_byte
      → leading_byte (drop 2 codes) + 256 * leading_byte codes ≡ leading_base codes
  unfolding base_of
  both_bytes high low =
      rw (lt-ltb (leading_byte codes) no_byte high, lt-ltb (leading_byte (drop 2 codes)) no_byte low) at (four codes enough)
