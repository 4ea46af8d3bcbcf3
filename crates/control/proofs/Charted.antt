-- The mode 0 chart lists the directions of every word, at the index that puts bits 4, 3, 1 and 0 side by side: tests at every word.
-- Rests on bits' Tested.
use Rattle.std.proofs.Common.{◌≡◌, Bool, false, [], ℕ, ◌/◌, ◌<◌, bit_and, bit_or, get_or, ltb, ltb→lt}
use Rattle.bits.specs.Bit.{bit_of}
use Rattle.bits.proofs.Tested.{each, bits}
use Rattle.control.specs.declared.Group.TheVariants.{A, B}
use Rattle.control.specs.declared.chart.TheConstants.{CHART}
use Rattle.control.specs.Mode.{input_of, upper_input, lower_input, directions_of}

abbrev index : ℕ → ℕ
index w = bit_or (bit_and (w / 2) 12) (bit_and w 3)

pub index_below : (w : ℕ) → w < 256 → index w < 16
index_below w h = ltb→lt (index w) 16 (each 256 (λ w. ltb (index w) 16) tt w h)

-- A direction of the chart's row for a word.
abbrev entry : ℕ → ℕ → Bool
entry i w = get_or (get_or CHART (index w) []) i false

pub listed : (w : ℕ) → w < 256 → record { a = entry 0 w; upper = entry 1 w; b = entry 2 w; lower = entry 3 w } ≡ directions_of w
unfolding bit_of input_of upper_input lower_input
listed w h = λ i. record {
  a = bits 256 (entry 0) (λ w. input_of w A) tt w h i;
  upper = bits 256 (entry 1) upper_input tt w h i;
  b = bits 256 (entry 2) (λ w. input_of w B) tt w h i;
  lower = bits 256 (entry 3) lower_input tt w h i;
}
