-- The run of a text into an output: its number, the lines and bytes that it counts, and what the output then holds ("A rack of cards",
-- "Events and numbers", "Script and program").
use Rattle.std.specs.Prelude.{Bool, cond, not, List, [], ◌++◌, ℕ, ◌*◌, eqb, ltb, length, drop, is_ok, Result, Ok, Err}
use Rattle.std.specs.Result.{result_unwrap_or}
use Rattle.rack.specs.declared.Rack.{Rack}
use Rattle.rack.specs.Bases.{bad_rack_number}
use Rattle.rack.specs.State.{rack_of}
use Rattle.script.specs.Answers.{answers_from}
use Rattle.bus.specs.Never0.{Never0}
use Rattle.rack.specs.Answers.{bad_rack_told}
use Rattle.rack.specs.Never0.{bad_rack_never_0}
use Rattle.script.specs.Run as runs
use Rattle.script.specs.Run.{too_long, too_long_number, no_room_number, width_of}
use Rattle.text.specs.Lines.{Line, lines_of}
use Rattle.script.specs.declared.racks.Ran as counts
use Rattle.script.specs.declared.racks.RackRunRefusal.{RackRunRefusal}
use Rattle.script.specs.declared.racks.RackRunRefusal.TheVariants.{BadRack, Run}
use Rattle.script.specs.RackBases.{rack_for, further_lines}
use Rattle.script.specs.RackAnswers.{answering}

-- Whether the first line of a text is a rack; that rack, which has no cards where the line is none; and the lines that it is to answer.
abbrev pub names_rack : List ℕ → Bool
names_rack text = is_ok (rack_for (lines_of text))

abbrev pub rack_named : List ℕ → Rack
rack_named text = result_unwrap_or (rack_for (lines_of text)) (rack_of [])

abbrev pub to_answer : List ℕ → List Line
to_answer text = further_lines (lines_of text)

-- The bytes that the answers of a rack to some lines take; and those to a text.
abbrev pub room_for : Rack → List Line → ℕ
room_for r ls = width_of answering r * length ls

abbrev pub room_for_text : List ℕ → ℕ
room_for_text text = room_for (rack_named text) (to_answer text)

-- The number of a run, that of the first refusal that applies, and 0 where none does: the text is too long; its first line is no rack; the
-- output has no room for the answers.
unfoldable pub run_number : List ℕ → ℕ → ℕ
run_number text room =
    cond (too_long text) too_long_number
    (cond (not (names_rack text)) bad_rack_number
    (cond (ltb room (room_for_text text)) no_room_number
    0))

abbrev pub run_refusal_number : RackRunRefusal → ℕ
run_refusal_number (BadRack r) = bad_rack_told r
run_refusal_number (Run r) = runs.run_refusal_number r

pub run_refusal_never_0 : Never0 run_refusal_number
run_refusal_never_0 (BadRack r) = bad_rack_never_0 r
run_refusal_never_0 (Run r) = runs.run_refusal_never_0 r

-- The number of a run, how many lines it answers, and how many bytes the answers have.
pub record Ran : Type 0 where
  pub number : ℕ
  pub lines : ℕ
  pub length : ℕ

-- A refused run answers no line; an accepted one answers every line behind the first, and has the number 0.
abbrev pub refused_run : ℕ → Ran
refused_run n = record { number = n; lines = 0; length = 0 }

abbrev pub accepted_run : List ℕ → Ran
accepted_run text = record { number = 0; lines = length (to_answer text); length = room_for_text text }

-- What a run with the number n comes to.
abbrev pub ran_by : ℕ → List ℕ → Ran
ran_by n text = cond (eqb n 0) (accepted_run text) (refused_run n)

abbrev pub ran_of : List ℕ → ℕ → Ran
ran_of text room = ran_by (run_number text room) text

-- What the answer of a run tells of it.
abbrev pub run_told : Result counts.Ran RackRunRefusal → Ran
run_told (Ok ran) = record { number = 0; lines = ran.lines; length = ran.length }
run_told (Err r) = refused_run (run_refusal_number r)

-- The output when a rack has answered some lines: the answers, and the bytes that stood behind them.
abbrev pub filled : Rack → List Line → List ℕ → List ℕ
filled r ls out = answers_from answering r ls ++ drop (room_for r ls) out

-- The output after a run: a refused one leaves it as it was.
abbrev pub output_left : List ℕ → List ℕ → List ℕ
output_left text out = cond (eqb (run_number text (length out)) 0) (filled (rack_named text) (to_answer text) out) out
