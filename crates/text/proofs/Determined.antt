-- The contract of each public function of text leaves no choice: of a part of a text that is lent on neither.
-- Rests on bits' Determined and Said.
use Rattle.std.proofs.Common.{ap, List, ℕ, Bor}
use Rattle.bits.proofs.Determined.{Determines, equation_determines}
use Rattle.text.specs.declared.lines.Lines.{Lines}
use Rattle.text.proofs.Said.{told_of_one}
use Rattle.text.specs.contracts as text_says
use Rattle.text.proofs as text

abbrev lines_in : Bor (List ℕ) → Lines
lines_in text = record { text = text }

pub code_determined : Determines text_says.digits.code.ended text.digits.code.Reads.Learnt
code_determined c x y = equation_determines

pub of_byte_determined : Determines text_says.digits.of_byte.ended text.digits.of_byte.Reads.Learnt
of_byte_determined c x y = equation_determines

pub byte_at_determined : Determines text_says.line.byte_at.ended text.line.byte_at.Reads.Learnt
byte_at_determined c x y = equation_determines

pub bytes_determined : Determines text_says.line.Line.bytes.ended text.line.Line.bytes.Reads.Learnt
bytes_determined c x y = equation_determines

pub event_determined : Determines text_says.line.Line.event.ended text.line.Line.event.Reads.Learnt
event_determined c x y p q = ap (λ r. (r, y.1)) (told_of_one x.0 y.0 _ p q)

pub new_determined : Determines text_says.lines.Lines.new.ended text.lines.Lines.new.Reads.Learnt
new_determined c x y p q = equation_determines (ap lines_in p) (ap lines_in q)

pub count_determined : Determines text_says.lines.count.ended text.lines.count.Reads.Learnt
count_determined c x y = equation_determines
