-- A pin falls where it is one of all that fall.
-- Rests on bits' MaskLaws.
use Rattle.std.proofs.Common.{◌≡◌, ◌∙◌, ap, Bool, ◌&&◌, ℕ, ◌-◌, ◌<◌}
use lib.Bits.{bit_and}
use Rattle.bits.specs.Bit.{bit_of}
use Rattle.bits.proofs.MaskLaws.{bit_and_lem, bit_not}
use Rattle.chip.specs.Levels.{fallen}

pub fallen_by_mask : (before after n : ℕ) → after < 256 → n < 8 → bit_of (bit_and before (255 - after)) n ≡ fallen before after n
unfolding fallen
fallen_by_mask before after n ha hn =
    bit_and_lem before (255 - after) n ∙ ap (λ (low : Bool). bit_of before n && low) (bit_not after n ha hn)
