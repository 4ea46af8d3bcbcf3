-- A control byte can name none but the eight pins of port C ("Writes and bit set/reset").
-- Rests on nothing.
use Rattle.std.proofs.Common.{◌≡◌, ap, subst, Bool, true, false, cond, ℕ, ◌/◌, ◌%◌, ◌<◌, arith}
use Rattle.bits.specs.Bit.{bit_of}
use Rattle.control.specs.declared.word.Control.{Control}
use Rattle.control.specs.declared.word.Control.TheVariants.{Mode, Bit}
use Rattle.control.specs.Word.{control_of}

abbrev pin_of : Control → ℕ
pin_of (Mode w) = 0
pin_of (Bit n v) = n

below : (mode : Bool) (d : ℕ) → pin_of (cond mode (Mode d) (Bit (d / 2 % 8) (bit_of d 0))) < 8
below true d = omega arith
below false d = omega arith

pub pin_named_lem : (d n : ℕ) (v : Bool) → control_of d ≡ Bit n v → n < 8
unfolding control_of
pin_named_lem d n v e = subst (λ (k : ℕ). k < 8) (ap pin_of e) (below (bit_of d 7) d)
