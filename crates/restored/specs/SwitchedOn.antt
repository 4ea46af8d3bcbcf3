-- What a power-up leaves in 96 bytes, number by number ("A host in C", "Levels at power-up", "The 82C55A").
use Rattle.std.specs.Prelude.{◌≡◌, List, [], ◌∷◌, ◌++◌, ℕ, ◌≤◌, replicate}
use Rattle.calls.specs.Calls.{power_up_image, power_up_image_with, power_up_as_image}

-- Tallies of 0; the levels on ports A, B and C, and a latch of port C that is 0; four latches that are 0; four channels that are empty; the mode
-- word 9B, no enable, an idle bus, which is 8, and no byte that is written; the edition, and nothing behind it.
abbrev pub switched_on : ℕ → ℕ → ℕ → ℕ → List ℕ
switched_on edition a b c =
    replicate 56 0 ++ (a ∷ b ∷ c ∷ 0 ∷ 0 ∷ 0 ∷ 0 ∷ 0 ∷ 0 ∷ 0 ∷ 0 ∷ 0 ∷ 0x9b ∷ 0 ∷ 8 ∷ 0 ∷ edition ∷ []) ++ replicate 23 0

-- Each power-up writes these bytes over those that it is lent: with the edition and the levels that are named, or with the older edition, 0,
-- where none is, and with lines that are all low where no levels are.
pub record SwitchesOn (l : List ℕ) : Type 0 where
  pub edition_named : (ed a b c : ℕ) → ed ≤ 1 → power_up_as_image l ed a b c ≡ switched_on ed a b c
  pub levels_named : (a b c : ℕ) → power_up_image_with l a b c ≡ switched_on 0 a b c
  pub none_named : power_up_image l ≡ switched_on 0 0 0 0
