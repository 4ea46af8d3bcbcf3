-- The summary's columns are the chip's modes and directions.
-- Rests on Words, on control's AsByte and SameWords, and on bits' Tested.
use Rattle.std.proofs.Common.{◌≡◌, ◌∙◌, ap, sym, Bool, cond, ◌&&◌, ℕ, ◌%◌, arith, T, eqb}
use Rattle.bits.specs.Bit.{bit_of}
use Rattle.bits.proofs.Tested.{all, same, bits}
use Rattle.control.specs.declared.Group.{Group}
use Rattle.control.specs.declared.Group.TheVariants.{A, B}
use Rattle.control.specs.Mode.{mode_of, input_of, strobed_input, strobed_output, output_of}
use Rattle.control.proofs.AsByte.{as_byte}
use Rattle.control.proofs.SameWords.{same_taking, same_giving}
use Rattle.account.specs.Summary.{Column, plain_in, plain_out, strobed_in, strobed_out, column_of, takes, gives, keeps, is_plain}
use Rattle.account.specs.Promise.{with_bit7}
use Rattle.account.proofs.Words.{column_alike, byte_alike, with_bit_7_alike}

-- What two tests find alike at every byte they find alike at every number, where neither asks more than the lowest byte.
by_bytes : (f h : ℕ → Bool) → ((w : ℕ) → f (w % 256) ≡ f w) → ((w : ℕ) → h (w % 256) ≡ h w)
    → T (all 256 (λ w. same (f w) (h w))) → (w : ℕ) → f w ≡ h w
by_bytes f h low_f low_h t w = sym (low_f w) ∙ bits 256 f h t (w % 256) (omega arith) ∙ low_h w

-- So it is with a column of the summary, which asks for bits 0 to 6.
by_column : (g : Group) (f : Column → Bool) (h : ℕ → Bool) → ((w : ℕ) → h (w % 256) ≡ h w)
    → T (all 256 (λ w. same (f (column_of w g)) (h w))) → (w : ℕ) → f (column_of w g) ≡ h w
by_column g f h low = by_bytes (λ w. f (column_of w g)) h (λ w. ap f (column_alike (w % 256) w (byte_alike w) g)) low

-- The columns are the modes and directions.
pub takes_same : (w : ℕ) (g : Group) → takes (column_of w g) ≡ strobed_input w g
unfolding strobed_input mode_of input_of bit_of
takes_same w A = by_column A takes (λ w. strobed_input w A) (λ w. same_taking (as_byte w) A) tt w
takes_same w B = by_column B takes (λ w. strobed_input w B) (λ w. same_taking (as_byte w) B) tt w

pub gives_same : (w : ℕ) (g : Group) → gives (column_of w g) ≡ strobed_output w g
unfolding strobed_output mode_of input_of bit_of
gives_same w A = by_column A gives (λ w. strobed_output w A) (λ w. same_giving (as_byte w) A) tt w
gives_same w B = by_column B gives (λ w. strobed_output w B) (λ w. same_giving (as_byte w) B) tt w

output_as_byte : (w : ℕ) (g : Group) → output_of (w % 256) g ≡ output_of w g
unfolding output_of
output_as_byte w g = rw ((as_byte w).mode g, (as_byte w).input g)

pub keeps_same : (w : ℕ) (g : Group) → keeps (column_of w g) ≡ output_of w g
unfolding output_of mode_of input_of bit_of
keeps_same w A = by_column A keeps (λ w. output_of w A) (λ w. output_as_byte w A) tt w
keeps_same w B = by_column B keeps (λ w. output_of w B) (λ w. output_as_byte w B) tt w

pub plain_same : (w : ℕ) (g : Group) → is_plain (column_of w g) ≡ eqb (mode_of w g) 0
unfolding mode_of bit_of
plain_same w A = by_column A is_plain (λ w. eqb (mode_of w A) 0) (λ w. ap (λ (m : ℕ). eqb m 0) ((as_byte w).mode A)) tt w
plain_same w B = by_column B is_plain (λ w. eqb (mode_of w B) 0) (λ w. ap (λ (m : ℕ). eqb m 0) ((as_byte w).mode B)) tt w

-- Mode 2 is the one column that both takes and gives.
abbrev pub is_two : Column → Bool
is_two c = takes c && gives c

pub two_same : (w : ℕ) (g : Group) → is_two (column_of w g) ≡ eqb (mode_of w g) 2
unfolding mode_of bit_of
two_same w A = by_column A is_two (λ w. eqb (mode_of w A) 2) (λ w. ap (λ (m : ℕ). eqb m 2) ((as_byte w).mode A)) tt w
two_same w B = by_column B is_two (λ w. eqb (mode_of w B) 2) (λ w. ap (λ (m : ℕ). eqb m 2) ((as_byte w).mode B)) tt w

-- Group B's column, by its two bits.
abbrev pub column_b : Bool → Bool → Column
column_b one taking = cond one (cond taking strobed_in strobed_out) (cond taking plain_in plain_out)

-- A column of the summary under a word whose bit 7 counts as set.
pub takes_here : (w : ℕ) (g : Group) → takes (column_of (with_bit7 w) g) ≡ strobed_input w g
takes_here w g = ap takes (column_alike (with_bit7 w) w (with_bit_7_alike w) g) ∙ takes_same w g

pub gives_here : (w : ℕ) (g : Group) → gives (column_of (with_bit7 w) g) ≡ strobed_output w g
gives_here w g = ap gives (column_alike (with_bit7 w) w (with_bit_7_alike w) g) ∙ gives_same w g

pub keeps_here : (w : ℕ) (g : Group) → keeps (column_of (with_bit7 w) g) ≡ output_of w g
keeps_here w g = ap keeps (column_alike (with_bit7 w) w (with_bit_7_alike w) g) ∙ keeps_same w g
