-- The mending of a captured script: the clean script, the report, the number, the answer, and what both outputs then hold
-- ("Mending captured scripts").
use Rattle.std.specs.Prelude.{refl, cond, ◌||◌, ℕ, ◌+◌, ◌*◌, eqb, ltb, length, drop, Result, Ok, Err, List, ◌++◌, map}
use mathlib.Core.List.{flat_map}
use Rattle.bus.specs.Never0.{Never0}
use Rattle.text.specs.Lines.{Line, lines_of, line_count}
use Rattle.script.specs.Run.{too_long, too_long_number, no_room_number}
use Rattle.mend.specs.declared.Mended.{Mended}
use Rattle.mend.specs.declared.MendRefusal.{MendRefusal}
use Rattle.mend.specs.declared.MendRefusal.TheVariants.{TooLong, NoRoom}
use Rattle.mend.specs.Line.{bytes_of, sign_of, clean_line}

-- The clean script is what it has of each line, one after the other.
unfoldable pub clean_of : List ℕ → List ℕ
clean_of text = flat_map (λ (l : Line). clean_line (bytes_of l)) (lines_of text)

-- The report has one sign for each line of the text.
unfoldable pub report_of : List ℕ → List ℕ
report_of text = map sign_of (lines_of text)

-- The number of a call, by the text and the room in each output: 6 where the text or its clean form is longer than a script may be; then 7
-- where the first output is shorter than the clean text, or the second than there are lines; and 0 otherwise.
unfoldable pub mend_number : List ℕ → ℕ → ℕ → ℕ
mend_number text clean_room report_room =
    cond (too_long text || too_long (clean_of text)) too_long_number
    (cond (ltb clean_room (length (clean_of text)) || ltb report_room (line_count text)) no_room_number 0)

-- The number of a refusal.
abbrev pub mend_refusal_number : MendRefusal → ℕ
mend_refusal_number TooLong = too_long_number
mend_refusal_number NoRoom = no_room_number

pub mend_refusal_never_0 : Never0 mend_refusal_number
mend_refusal_never_0 TooLong = refl
mend_refusal_never_0 NoRoom = refl

-- What a call comes to: its number, and both lengths, which are 0 where it is refused.
pub record Outcome : Type 0 where
  pub number : ℕ
  pub clean : ℕ
  pub report : ℕ

abbrev pub refused_by : ℕ → Outcome
refused_by n = record { number = n; clean = 0; report = 0 }

abbrev pub accepted : List ℕ → Outcome
accepted text = record { number = 0; clean = length (clean_of text); report = length (report_of text) }

abbrev pub outcome_by : ℕ → List ℕ → Outcome
outcome_by n text = cond (eqb n 0) (accepted text) (refused_by n)

abbrev pub outcome_of : List ℕ → ℕ → ℕ → Outcome
outcome_of text clean_room report_room = outcome_by (mend_number text clean_room report_room) text

-- What the answer of the Rattle function tells of it.
abbrev pub mend_told : Result Mended MendRefusal → Outcome
mend_told (Ok m) = record { number = 0; clean = m.clean; report = m.report }
mend_told (Err r) = refused_by (mend_refusal_number r)

-- The answer for C has the length of the clean text above the number, from bit 8 on, and that of the report from bit 32 on.
abbrev pub packed : Outcome → ℕ
packed o = o.number + 256 * o.clean + 4294967296 * o.report

unfoldable pub mend_answer : List ℕ → ℕ → ℕ → ℕ
mend_answer text clean_room report_room = packed (outcome_of text clean_room report_room)

-- An output with bytes in front: what stood behind them stays.
abbrev pub in_front : List ℕ → List ℕ → List ℕ
in_front bytes out = bytes ++ drop (length bytes) out

-- Both outputs after a call. A refused one leaves them as they were.
unfoldable pub clean_left : List ℕ → List ℕ → List ℕ → List ℕ
clean_left text clean report = cond (eqb (mend_number text (length clean) (length report)) 0) (in_front (clean_of text) clean) clean

unfoldable pub report_left : List ℕ → List ℕ → List ℕ → List ℕ
report_left text clean report = cond (eqb (mend_number text (length clean) (length report)) 0) (in_front (report_of text) report) report
