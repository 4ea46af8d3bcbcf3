-- The pin that a bit set/reset word names, by its bits and by division.
-- Rests on bits' Tested.
use Rattle.std.proofs.Common.{◌≡◌, ℕ, ◌+◌, ◌*◌, ◌/◌, ◌%◌, ◌<◌, arith, eqb}
use Rattle.bits.specs.Bit.{bit_of, num}
use Rattle.bits.proofs.Tested.{numbers}
use Rattle.fates.specs.Effects.{pin_named}

-- The pin that a control word names, by its bits.
bit_number : (k : ℕ) → k < 2 → num (eqb k 1) ≡ k
bit_number = numbers 2 (λ k. num (eqb k 1)) (λ k. k) tt

three_bits : (k : ℕ) → k < 8 → k % 2 + 2 * (k / 2 % 2) + 4 * (k / 4 % 2) ≡ k
three_bits = numbers 8 (λ k. k % 2 + 2 * (k / 2 % 2) + 4 * (k / 4 % 2)) (λ k. k) tt

second_of_eight : (k : ℕ) → k / 2 % 2 ≡ k % 8 / 2 % 2
second_of_eight k = omega arith

third_of_eight : (k : ℕ) → k / 4 % 2 ≡ k % 8 / 4 % 2
third_of_eight k = omega arith

of_quotient : (k : ℕ) → k % 2 + 2 * (k / 2 % 2) + 4 * (k / 4 % 2) ≡ k % 8
of_quotient k = let e : k % 2 ≡ k % 8 % 2 = omega arith in rw (e, second_of_eight k, third_of_eight k) (three_bits (k % 8) (omega arith))

pub pin_same : (d : ℕ) → pin_named d ≡ d / 2 % 8
unfolding bit_of
pin_same d =
    let f : d / 4 ≡ d / 2 / 2 = omega arith in
    let g : d / 8 ≡ d / 2 / 4 = omega arith in
    rw (bit_number (d / 2 % 2) (omega arith), bit_number (d / 4 % 2) (omega arith), bit_number (d / 8 % 2) (omega arith), f, g) (of_quotient (d / 2))
