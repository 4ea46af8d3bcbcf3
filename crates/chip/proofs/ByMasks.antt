-- Port C's latch written under a mask is the latch written pin by pin ("Writes and bit set/reset").
-- Rests on bits' laws of masks and on control's PinByMasks.
use Rattle.std.proofs.Common.{◌≡◌, ◌∙◌, Bool, true, false, cond, ◌||◌, ℕ, ◌<◌, eqb}
use lib.Bits.{bit_and}
use Rattle.bits.specs.Bit.{bit_of, blend_of}
use Rattle.bits.proofs.Tested.{bits}
use Rattle.bits.proofs.BitLaws.{assembled_same}
use Rattle.bits.proofs.MaskLaws.{bit_and_lem, blend_assembled}
use Rattle.control.specs.declared.Group.TheVariants.{A}
use Rattle.control.specs.Mode.{mode_of}
use Rattle.control.specs.Role.{in_lower_half}
use Rattle.control.specs.Pins.{output_pins}
use Rattle.control.proofs.PinByMasks.{bit_of_outputs}
use Rattle.chip.specs.Write.{writable, latch_written}

-- All eight bits, or the lower four.
abbrev reached : Bool → ℕ
reached all = cond all 0xff 0x0f

bit_of_reached : (all : Bool) (n : ℕ) → n < 8 → bit_of (reached all) n ≡ (in_lower_half n || all)
unfolding bit_of
bit_of_reached true = bits 8 (λ n. bit_of (reached true) n) (λ n. in_lower_half n || true) tt
bit_of_reached false = bits 8 (λ n. bit_of (reached false) n) (λ n. in_lower_half n || false) tt

pub latch_by_masks : (w x d : ℕ)
    → blend_of (bit_and (output_pins w) (reached (eqb (mode_of w A) 0))) d x ≡ latch_written w x d
unfolding latch_written
latch_by_masks w x d =
    let mask = bit_and (output_pins w) (reached (eqb (mode_of w A) 0)) in
    blend_assembled mask d x
    ∙ assembled_same (λ n. cond (bit_of mask n) (bit_of d n) (bit_of x n)) (λ n. cond (writable w n) (bit_of d n) (bit_of x n))
    (λ n hn. rw (bit_and_lem (output_pins w) (reached (eqb (mode_of w A) 0)) n, bit_of_outputs w n hn, bit_of_reached (eqb (mode_of w A) 0) n hn))
