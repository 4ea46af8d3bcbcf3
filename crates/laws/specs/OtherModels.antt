-- What a write to port C leaves where other models change it ("Errors seen in other models").
use Rattle.std.specs.Prelude.{◌≡◌, ℕ, ◌<◌, ◌≤◌}
use Rattle.bits.specs.Bit.{bit_of}
use Rattle.chip.specs.declared.Chip.{Chip}
use Rattle.laws.specs.Seen.{pin}

-- Bits 7 to 4 of the latch of port C are as they were, and so are the pins 7 to 4.
pub record UpperStays (before after : Chip) : Type 0 where
  pub bits : (n : ℕ) → 4 ≤ n → n < 8 → bit_of after.core.c.latch n ≡ bit_of before.core.c.latch n
  pub pins : (n : ℕ) → 4 ≤ n → n < 8 → pin after n ≡ pin before n
