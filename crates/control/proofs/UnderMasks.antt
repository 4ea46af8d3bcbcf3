-- What is asked of a mode word under masks is what the definitions say of a group, and which pins of port C are whose: tests at every word.
-- Rests on bits' Tested.
use Rattle.std.proofs.Common.{◌≡◌, Bool, cond, not, ◌||◌, ℕ, ◌-◌, ◌/◌, ◌%◌, ◌^◌, ◌<◌, eqb, ltb}
use lib.Bits.{bit_and, bit_or}
use Rattle.bits.specs.Bit.{bit_of, value_of}
use Rattle.bits.proofs.Tested.{bits, numbers}
use Rattle.control.specs.declared.Group.{Group}
use Rattle.control.specs.declared.Group.TheVariants.{A, B}
use Rattle.control.specs.Mode.{mode_of, input_of, upper_input, lower_input, strobed_input, strobed_output, output_of}
use Rattle.control.specs.Role.{uses_of, free_role, role_of}
use Rattle.control.specs.Pins.{handshake_pins, output_pins}

-- Bits under a mask, which is all that is asked for group B; for group A bit 6, which is mode 2, does as well.
abbrev under : ℕ → ℕ → ℕ → Bool
under mask value w = eqb (bit_and w mask) value

abbrev two_or_under : ℕ → ℕ → ℕ → Bool
two_or_under mask value w = under 0x40 0x40 w || under mask value w

-- The mode of group A by two bits, of which the value 3 is mode 2 as well, and of group B by one.
abbrev by_bits : Group → ℕ → ℕ
by_bits A w = cond (eqb (bit_and (w / 32) 3) 0) 0 (cond (eqb (bit_and (w / 32) 3) 1) 1 2)
by_bits B w = cond (eqb (bit_and (w / 4) 1) 0) 0 1

pub a_mode_by_mask : (w : ℕ) (g : Group) → g ≡ A → w < 256 → by_bits A w ≡ mode_of w g
unfolding mode_of
a_mode_by_mask w g is below = rw is (numbers 256 (by_bits A) (λ w. mode_of w A) tt w below)

pub b_mode_by_mask : (w : ℕ) (g : Group) → g ≡ B → w < 256 → by_bits B w ≡ mode_of w g
unfolding mode_of
b_mode_by_mask w g is below = rw is (numbers 256 (by_bits B) (λ w. mode_of w B) tt w below)

pub a_takes_by_mask : (w : ℕ) → w < 256 → ltb 0x20 (bit_and w 0x70) ≡ strobed_input w A
unfolding strobed_input mode_of input_of bit_of
a_takes_by_mask = bits 256 (λ w. ltb 0x20 (bit_and w 0x70)) (λ w. strobed_input w A) tt

pub b_takes_by_mask : (w : ℕ) → w < 256 → under 0x06 0x06 w ≡ strobed_input w B
unfolding strobed_input mode_of input_of bit_of
b_takes_by_mask = bits 256 (under 0x06 0x06) (λ w. strobed_input w B) tt

pub a_gives_by_mask : (w : ℕ) → w < 256 → two_or_under 0x30 0x20 w ≡ strobed_output w A
unfolding strobed_output mode_of input_of bit_of
a_gives_by_mask = bits 256 (two_or_under 0x30 0x20) (λ w. strobed_output w A) tt

pub b_gives_by_mask : (w : ℕ) → w < 256 → under 0x06 0x04 w ≡ strobed_output w B
unfolding strobed_output mode_of input_of bit_of
b_gives_by_mask = bits 256 (under 0x06 0x04) (λ w. strobed_output w B) tt

pub a_stores_by_mask : (w : ℕ) → w < 256 → not (under 0x50 0x10 w) ≡ output_of w A
unfolding output_of mode_of input_of bit_of
a_stores_by_mask = bits 256 (λ w. not (under 0x50 0x10 w)) (λ w. output_of w A) tt

pub b_stores_by_mask : (w : ℕ) → w < 256 → under 0x02 0 w ≡ output_of w B
unfolding output_of mode_of input_of bit_of
b_stores_by_mask = bits 256 (under 0x02 0) (λ w. output_of w B) tt

-- The pins that handshakes use: group A's by the byte of a row of eight that bits 6 to 4 name, and group B's three.
abbrev by_handshakes : ℕ → ℕ
by_handshakes w = bit_or (0xf8f8_f8f8_38c8_0000 / 2 ^ bit_and (w / 2) 0x38 % 256) (cond (bit_of w 2) 0x07 0)

pub handshakes_by_mask : (w : ℕ) → w < 256 → by_handshakes w ≡ handshake_pins w
unfolding handshake_pins role_of uses_of free_role mode_of input_of upper_input lower_input bit_of value_of
handshakes_by_mask = numbers 256 by_handshakes handshake_pins tt

-- The outputs are what neither a handshake uses nor the direction of its half makes an input.
abbrev by_halves : ℕ → ℕ
by_halves w = 255 - bit_or (bit_or (handshake_pins w) (cond (bit_of w 3) 0xf0 0)) (cond (bit_of w 0) 0x0f 0)

pub outputs_by_mask : (w : ℕ) → w < 256 → by_halves w ≡ output_pins w
unfolding output_pins handshake_pins role_of uses_of free_role mode_of input_of upper_input lower_input bit_of value_of
outputs_by_mask = numbers 256 by_halves output_pins tt
