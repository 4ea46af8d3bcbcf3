-- Port C by plain bits of the mode word, in every state: which bits a write stores, and which pins the chip drives ("Writes and bit set/reset",
-- "Reads and pins").
-- Rests on PlainBits, and bits' Tested and BitLaws.
use Rattle.std.proofs.Common.{◌≡◌, ◌∙◌, refl, ap, Bool, true, false, cond, not, ◌&&◌, ◌||◌, ℕ, ◌<◌}
use Rattle.bits.specs.Bit.{bit_of}
use Rattle.bits.proofs.Tested.{bits}
use Rattle.bits.proofs.BitLaws.{bit_of_assembled}
use Rattle.control.specs.Role.{input, output, role_of}
use Rattle.control.specs.Pins.{is_output, handshake_role}
use Rattle.chip.specs.declared.Chip.{Chip}
use Rattle.chip.specs.Write.{writable, latch_written}
use Rattle.chip.specs.Pins.{is_driven, pins_of_lines, pins_of}
use Rattle.laws.specs.Seen.{driven}
use Rattle.laws.specs.PlainBits.{used, into_c, free_output, is_line_pin}
use Rattle.laws.specs.PortC.{reached, driven_by}
use Rattle.laws.proofs.PlainBits.{zero_by_bits, role_by_bits}

-- No role of a handshake is free output, and all but those on pins 2, 4 and 6 are driven.
not_free : (taking : Bool) (n : ℕ) → n < 8 → is_output (handshake_role taking n) ≡ false
not_free true = bits 8 (λ n. is_output (handshake_role true n)) (λ n. false) tt
not_free false = bits 8 (λ n. is_output (handshake_role false n)) (λ n. false) tt

but_lines : (taking : Bool) (n : ℕ) → n < 8 → is_driven (handshake_role taking n) ≡ not (is_line_pin n)
but_lines true = bits 8 (λ n. is_driven (handshake_role true n)) (λ n. not (is_line_pin n)) tt
but_lines false = bits 8 (λ n. is_driven (handshake_role false n)) (λ n. not (is_line_pin n)) tt

module _ (w n : ℕ) (below : n < 8) where
  free_by_bits : is_output (role_of w n) ≡ free_output w n
  free_by_bits = ap is_output (role_by_bits w n below) ∙ go (used w n) (into_c w n)
    where
      go : (in_use inward : Bool)
          → is_output (cond in_use (handshake_role (bit_of w 1) n) (cond (not in_use && inward) input output)) ≡ (not in_use && not inward)
      go true inward = not_free (bit_of w 1) n below
      go false true = refl
      go false false = refl

  driven_by_bits : is_driven (role_of w n) ≡ driven_by w n
  driven_by_bits = ap is_driven (role_by_bits w n below) ∙ go (used w n) (into_c w n)
    where
      go : (in_use inward : Bool)
          → is_driven (cond in_use (handshake_role (bit_of w 1) n) (cond (not in_use && inward) input output))
          ≡ not ((not in_use && inward) || (in_use && is_line_pin n))
      go true inward = but_lines (bit_of w 1) n below
      go false true = refl
      go false false = refl

-- What a write to port C leaves in its latch.
pub bits_written : (w x d n : ℕ) → n < 8 → bit_of (latch_written w x d) n ≡ cond (reached w n) (bit_of d n) (bit_of x n)
unfolding latch_written
bits_written w x d n below =
    bit_of_assembled (λ n. cond (writable w n) (bit_of d n) (bit_of x n)) n below ∙ rw (free_by_bits w n below, zero_by_bits w)

-- Which pins are driven.
pub driven_by_role : (c : Chip) (n : ℕ) → n < 8 → driven c n ≡ is_driven (role_of c.core.word n)
unfolding pins_of pins_of_lines
driven_by_role c = bit_of_assembled (λ n. is_driven (role_of c.core.word n))

pub line_driven : (c : Chip) (n : ℕ) → n < 8 → driven c n ≡ driven_by c.core.word n
line_driven c n below = driven_by_role c n below ∙ driven_by_bits c.core.word n below
