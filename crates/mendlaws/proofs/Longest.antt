-- A text of 4,096 bytes whose clean form has one byte more is refused.
-- Rests on Calls and ByTests, and on mend's Cleaning.
use Rattle.std.proofs.Common.{◌≡◌, refl, List, [], ◌∷◌, ℕ, zero, suc, ◌+◌, ◌*◌, ◌<◌, arith, length, length-append}
use mathlib.Core.List.{flat_map}
use Rattle.bus.specs.Kinds.{is_kind, operands_of}
use Rattle.text.specs.Digits.{digit_value, pair_value}
use Rattle.text.specs.Lines.{lines_of}
use Rattle.text.specs.Frames.{leading_byte, is_frame}
use Rattle.mend.specs.Line.{without_cr, raised, mended, clean_line}
use Rattle.mend.specs.Mend.{clean_of}
use Rattle.mend.proofs.Cleaning.{clean_in}
use Rattle.mendlaws.specs.Promise.{RefusedWith}
use Rattle.mendlaws.specs.Longest.{ends_before, fit_rest, lacks_one_lf}
use Rattle.mendlaws.proofs.Calls.{refused_with}
use Rattle.mendlaws.proofs.ByTests.{long_clean}

-- Each line 02 is three bytes of the text, and of its clean form.
bytes_before : (n : ℕ) (text : List ℕ) → length (ends_before n text) ≡ 3 * n + length text
unfolding ends_before
bytes_before zero text = omega arith
bytes_before (suc n) text = omega (arith, bytes_before n text)

abbrev end : List ℕ
end = 48 ∷ 50 ∷ []

three : length (clean_line end) ≡ 3
unfolding is_kind operands_of digit_value pair_value leading_byte is_frame without_cr raised mended clean_line
three = refl

clean_before : (n : ℕ) (text : List ℕ) → length (clean_of (ends_before n text)) ≡ 3 * n + length (clean_of text)
unfolding ends_before lines_of flat_map clean_of
clean_before zero text = omega arith
clean_before (suc n) text =
    omega (arith, three, clean_before n text, length-append (clean_line end) (flat_map clean_in (lines_of (ends_before n text))))

five : length (clean_of fit_rest) ≡ 5
unfolding flat_map is_kind operands_of digit_value pair_value lines_of leading_byte is_frame without_cr raised mended clean_line clean_of
five = refl

pub as_long_as_may_be : length lacks_one_lf ≡ 4096
unfolding lacks_one_lf
as_long_as_may_be = omega (arith, bytes_before 1364 fit_rest)

one_more_lem : 4096 < length (clean_of lacks_one_lf)
unfolding lacks_one_lf
one_more_lem = omega (arith, clean_before 1364 fit_rest, five)

pub refused_then : (clean report : List ℕ) → RefusedWith 6 lacks_one_lf clean report
refused_then clean report = refused_with lacks_one_lf clean report 6 (long_clean lacks_one_lf clean report one_more_lem) (λ e. omega (arith, e))
