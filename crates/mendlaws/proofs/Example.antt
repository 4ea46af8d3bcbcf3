-- The example's capture is mended as it says: computed.
-- Rests on nothing.
use Rattle.std.proofs.Common.{◌≡◌, refl}
use mathlib.Core.List.{flat_map}
use Rattle.bus.specs.Kinds.{is_kind, operands_of}
use Rattle.text.specs.Digits.{digit_value, pair_value}
use Rattle.text.specs.Lines.{lines_of}
use Rattle.text.specs.Frames.{leading_byte, is_frame}
use Rattle.mend.specs.Line.{without_cr, raised, mended, sign_of, clean_line}
use Rattle.mend.specs.Mend.{clean_of, report_of, mend_number, mend_answer, clean_left, report_left}
use Rattle.mendlaws.specs.Example.{a_capture, all_of, given, said}

pub mended_so : given (all_of a_capture) ≡ said
unfolding flat_map is_kind operands_of digit_value pair_value lines_of leading_byte is_frame without_cr raised mended sign_of clean_line clean_of report_of mend_number mend_answer clean_left report_left
mended_so = refl
