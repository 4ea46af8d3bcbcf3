-- A mode word counts modulo 256, so that what is found by trying every byte holds of every number.
-- Rests on SameWords.
use Rattle.std.proofs.Common.{◌≡◌, ℕ, ◌/◌, ◌%◌, arith}
use Rattle.bits.specs.Bit.{bit_of}
use Rattle.control.specs.declared.Group.{Group}
use Rattle.control.specs.declared.Group.TheVariants.{A, B}
use Rattle.control.specs.Mode.{mode_of, input_of, upper_input, lower_input}
use Rattle.control.proofs.SameWords.{SayTheSame}

modes : (w : ℕ) (g : Group) → mode_of (w % 256) g ≡ mode_of w g
unfolding mode_of
modes w A = let bits : w % 256 / 32 % 4 ≡ w / 32 % 4 = omega arith in rw (bits)
modes w B = omega arith

inputs : (w : ℕ) (g : Group) → input_of (w % 256) g ≡ input_of w g
unfolding input_of bit_of
inputs w A = let bit : w % 256 / 16 % 2 ≡ w / 16 % 2 = omega arith in rw (bit)
inputs w B = let bit : w % 256 / 2 % 2 ≡ w / 2 % 2 = omega arith in rw (bit)

uppers : (w : ℕ) → upper_input (w % 256) ≡ upper_input w
unfolding upper_input bit_of
uppers w = let bit : w % 256 / 8 % 2 ≡ w / 8 % 2 = omega arith in rw (bit)

lowers : (w : ℕ) → lower_input (w % 256) ≡ lower_input w
unfolding lower_input bit_of
lowers w = let bit : w % 256 / 1 % 2 ≡ w / 1 % 2 = omega arith in rw (bit)

pub as_byte : (w : ℕ) → SayTheSame (w % 256) w
as_byte w = record { mode = modes w; input = inputs w; upper = uppers w; lower = lowers w }
