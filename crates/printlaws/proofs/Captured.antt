-- What is printed of the captured script, and said of its lines: computed.
-- Rests on nothing.
use Rattle.std.proofs.Common.{◌≡◌, true, false, length, refl}
use mathlib.Core.List.{flat_map}
use Rattle.std.specs.Fmt.{digits}
use Rattle.bus.specs.Kinds.{is_kind, operands_of}
use Rattle.text.specs.Digits.{digit_value, pair_value}
use Rattle.text.specs.Lines.{lines_of}
use Rattle.text.specs.Frames.{leading_byte, is_frame}
use Rattle.mend.specs.Line.{without_cr, raised, mended, sign_of, clean_line}
use Rattle.mend.specs.Reason.{why, reason_of}
use Rattle.mend.specs.Mend.{clean_of}
use Rattle.prints.specs.Mended.{printed_mended, said_of, said_of_all, has_unfit}
use Rattle.printlaws.specs.Capture.{a_capture, clean_script, said_of_its_lines, a_fit_capture}

pub computed : (printed_mended a_capture ≡ clean_script) × (said_of_all a_capture ≡ said_of_its_lines)
    × (has_unfit a_capture ≡ true) × (has_unfit a_fit_capture ≡ false) × (length (lines_of a_capture) ≡ 7)
unfolding flat_map digits is_kind operands_of digit_value pair_value lines_of leading_byte is_frame without_cr raised mended sign_of clean_line why reason_of clean_of printed_mended said_of said_of_all has_unfit
computed = (refl, refl, refl, refl, refl)
