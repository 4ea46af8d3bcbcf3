-- The run of a text into an output: its number, the lines that it counts, and what it leaves ("Events and numbers", "Script and program").
use Rattle.std.specs.Prelude.{refl, Bool, cond, List, ◌++◌, ℕ, ◌*◌, eqb, ltb, length, drop, Result, Ok, Err}
use Rattle.bus.specs.Never0.{Never0}
use Rattle.text.specs.Lines.{line_count}
use Rattle.script.specs.declared.RunRefusal.{RunRefusal}
use Rattle.script.specs.declared.RunRefusal.TheVariants.{TooLong, NoRoom}
use Rattle.script.specs.Answers.{Answerer, line_width, answers_of, left_after}

-- A script has at most 4,096 bytes.
abbrev pub longest_script : ℕ
longest_script = 4096

abbrev pub too_long : List ℕ → Bool
too_long text = ltb longest_script (length text)

-- The bytes that the answers to a text take, each w bytes wide.
abbrev pub room_for : ℕ → List ℕ → ℕ
room_for w text = w * line_count text

-- The refusals of a run: the text is too long; the output has no room for the answers.
abbrev pub too_long_number : ℕ
too_long_number = 6

abbrev pub no_room_number : ℕ
no_room_number = 7

abbrev pub run_refusal_number : RunRefusal → ℕ
run_refusal_number TooLong = too_long_number
run_refusal_number NoRoom = no_room_number

pub run_refusal_never_0 : Never0 run_refusal_number
run_refusal_never_0 TooLong = refl
run_refusal_never_0 NoRoom = refl

-- The number of a run: that of the first refusal that applies, and 0 where none does.
unfoldable pub run_number : ℕ → List ℕ → ℕ → ℕ
run_number w text room = cond (too_long text) too_long_number (cond (ltb room (room_for w text)) no_room_number 0)

-- The number of a run, and how many lines it answers.
pub record Ran : Type 0 where
  pub number : ℕ
  pub lines : ℕ

-- A refused run answers no line; an accepted one answers every line, and has the number 0.
abbrev pub refused_run : ℕ → Ran
refused_run n = record { number = n; lines = 0 }

abbrev pub accepted_run : ℕ → Ran
accepted_run n = record { number = 0; lines = n }

-- What a run with the number n comes to.
abbrev pub ran_by : ℕ → List ℕ → Ran
ran_by n text = cond (eqb n 0) (accepted_run (line_count text)) (refused_run n)

abbrev pub ran_of : ℕ → List ℕ → ℕ → Ran
ran_of w text room = ran_by (run_number w text room) text

-- What the answer of a run tells of it.
abbrev pub run_told : Result ℕ RunRefusal → Ran
run_told (Ok n) = accepted_run n
run_told (Err r) = refused_run (run_refusal_number r)

module _ {S : Type 0} (a : Answerer S) where
  -- The bytes of an answer line, from a state on.
  abbrev pub width_of : S → ℕ
  width_of s = line_width (a.cards s)

  -- The output after an accepted run: the answers of whoever meets the text, and the bytes that stood behind them.
  abbrev pub filled : S → List ℕ → List ℕ → List ℕ
  filled s text out = answers_of a s text ++ drop (room_for (width_of s) text) out

  -- The output after a run, and the state: a refused one leaves them as they were.
  abbrev pub output_left : S → List ℕ → List ℕ → List ℕ
  output_left s text out = cond (eqb (run_number (width_of s) text (length out)) 0) (filled s text out) out

  abbrev pub subject_left : S → List ℕ → ℕ → S
  subject_left s text room = cond (eqb (run_number (width_of s) text room) 0) (left_after a s text) s
