-- Which ports a mode word strobes, bit by bit: bit 6 is mode 2 of group A, otherwise bit 5 its mode 1, and bit 2 mode 1 of group B; bits 4
-- and 1 are the directions ("Mode words").
-- Rests on nothing.
use Rattle.std.proofs.Common.{◌≡◌, refl, Bool, not, ◌&&◌, ◌||◌, ℕ, zero, suc, ◌+◌, ◌*◌, ◌/◌, ◌%◌, ◌<◌, arith, eqb, ne_eqb}
use Rattle.bits.specs.Bit.{bit_of}
use Rattle.control.specs.declared.Group.TheVariants.{A, B}
use Rattle.control.specs.Mode.{mode_of, input_of, upper_input, lower_input, directions_of, strobed_input, strobed_output}

-- Group A's mode by two bits, and what is strobed in it where the direction is d.
by_two_bits : (w low high : ℕ) → w / 32 % 4 ≡ low + 2 * high → low < 2 → high < 2 → (d : Bool)
    → (eqb (mode_of w A) 2 || (eqb (mode_of w A) 1 && d)) ≡ (eqb high 1 || (eqb low 1 && d))
unfolding mode_of
by_two_bits w zero zero e l h d = rw (e)
by_two_bits w (suc zero) zero e l h d = rw (e)
by_two_bits w zero (suc zero) e l h d = rw (e)
by_two_bits w (suc zero) (suc zero) e l h d = rw (e)
by_two_bits w zero (suc (suc high)) e l h d = absurd (omega (arith, h))
by_two_bits w (suc zero) (suc (suc high)) e l h d = absurd (omega (arith, h))
by_two_bits w (suc (suc low)) high e l h d = absurd (omega (arith, l))

of_a : (w : ℕ) (d : Bool) → (eqb (mode_of w A) 2 || (eqb (mode_of w A) 1 && d)) ≡ (bit_of w 6 || (bit_of w 5 && d))
unfolding bit_of
of_a w d = by_two_bits w (w / 32 % 2) (w / 64 % 2) (omega arith) (omega arith) (omega arith) d

-- Group B's mode is one bit, and so never 2.
of_b : (w : ℕ) (d : Bool) → (eqb (mode_of w B) 2 || (eqb (mode_of w B) 1 && d)) ≡ (bit_of w 2 && d)
unfolding mode_of bit_of
of_b w d = rw (ne_eqb (w / 4 % 2) 2 (λ e. omega (arith, e)))

pub a_takes : (w : ℕ) → strobed_input w A ≡ (bit_of w 6 || (bit_of w 5 && bit_of w 4))
unfolding strobed_input input_of
a_takes w = of_a w (bit_of w 4)

pub a_gives : (w : ℕ) → strobed_output w A ≡ (bit_of w 6 || (bit_of w 5 && not (bit_of w 4)))
unfolding strobed_output input_of
a_gives w = of_a w (not (bit_of w 4))

pub b_takes : (w : ℕ) → strobed_input w B ≡ (bit_of w 2 && bit_of w 1)
unfolding strobed_input input_of
b_takes w = of_b w (bit_of w 1)

pub b_gives : (w : ℕ) → strobed_output w B ≡ (bit_of w 2 && not (bit_of w 1))
unfolding strobed_output input_of
b_gives w = of_b w (not (bit_of w 1))

pub directions_by_bits : (w : ℕ) → directions_of w ≡ record { a = bit_of w 4; upper = bit_of w 3; b = bit_of w 1; lower = bit_of w 0 }
unfolding input_of upper_input lower_input
directions_by_bits w = refl
