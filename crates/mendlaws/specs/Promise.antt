-- What is promised of a call that mends a captured script: of its number, of both outputs, and of what the clean script means
-- ("Mending captured scripts").
use Rattle.std.specs.Prelude.{◌≡◌, cond, ◌||◌, List, [], ◌∷◌, ℕ, suc, ◌+◌, ◌/◌, ◌%◌, ◌<◌, ◌≤◌, eqb, length, take, drop, replicate, Result, Ok, Err}
use Rattle.bus.specs.Event.{Event}
use Rattle.chip.specs.declared.Chip.{Chip}
use Rattle.chip.specs.Pins.{pins_of}
use Rattle.chip.specs.Step.{device}
use Rattle.i8355.specs.declared.Chip8355.{Chip8355}
use Rattle.i8355.specs.Views.{pins_of as pins_of_8355}
use Rattle.i8355.specs.Step.{device as device8355}
use Rattle.text.specs.Lines.{lines_of, line_count}
use Rattle.text.specs.History.{history_of}
use Rattle.script.specs.Answers.{by_device, answers_of}
use Rattle.script.specs.History.{answers_to}
use Rattle.mend.specs.declared.Mended.{Mended as Lengths}
use Rattle.mend.specs.declared.MendRefusal.{MendRefusal}
use Rattle.mend.specs.declared.MendRefusal.TheVariants.{TooLong, NoRoom}
use Rattle.mend.specs.Mend.{mend_answer, clean_left, report_left}
use Rattle.mendlaws.specs.Says.{AllSay}
use Rattle.mendlaws.specs.Becomes.{AllBecome}

-- A call with a text and two outputs: its answer, and the two lengths that it gives.
module _ (text clean report : List ℕ) where
  abbrev pub answer_of : ℕ
  answer_of = mend_answer text (length clean) (length report)

  abbrev pub clean_length : ℕ
  clean_length = answer_of / 256 % 16777216

  abbrev pub sign_count : ℕ
  sign_count = answer_of / 4294967296

  -- What stands in front of the outputs after it, by these lengths.
  abbrev pub clean_text : List ℕ
  clean_text = take clean_length (clean_left text clean report)

  abbrev pub signs : List ℕ
  signs = take sign_count (report_left text clean report)

  -- A text that stays as it is: the clean text is that text, and each sign is K.
  pub record Stays : Type 0 where
    pub accepted : answer_of % 256 ≡ 0
    pub same : clean_text ≡ text
    pub all_kept : signs ≡ replicate (line_count text) 75

-- A text of which no line is malformed, and which is no longer than a script may be; and outputs with room for it, and for a sign of each line.
pub record CleanWithRoom (text clean report : List ℕ) (es : List Event) : Type 0 where
  pub says_events : AllSay (lines_of text) es
  pub short : length text ≤ 4096
  pub clean_room : length text ≤ length clean
  pub report_room : line_count text ≤ length report

-- How many signs say that a line is fit: K or M.
abbrev pub fit_signs : List ℕ → ℕ
fit_signs [] = 0
fit_signs (s ∷ ss) = cond (eqb s 75 || eqb s 77) (suc (fit_signs ss)) (fit_signs ss)

-- What is promised of an accepted call.
pub record Mended (text clean report : List ℕ) : Type 0 where
  -- The lengths are those of what was written, one sign for each line of the text; both outputs are as long as before, and what stood behind
  -- what was written stays.
  pub clean_written : length (clean_text text clean report) ≡ clean_length text clean report
  pub signs_written : length (signs text clean report) ≡ sign_count text clean report
  pub one_each : sign_count text clean report ≡ line_count text
  pub clean_as_long : length (clean_left text clean report) ≡ length clean
  pub report_as_long : length (report_left text clean report) ≡ length report
  pub clean_behind : drop (clean_length text clean report) (clean_left text clean report) ≡ drop (clean_length text clean report) clean
  pub report_behind : drop (sign_count text clean report) (report_left text clean report) ≡ drop (sign_count text clean report) report
  -- What became of each line, with the events that the fit ones say.
  pub events : List Event
  pub become : AllBecome (lines_of text) (signs text clean report) (clean_text text clean report) events
  -- No line of the clean script is malformed: each says its event, and is read as that. There are as many as fit signs.
  pub none_malformed : AllSay (lines_of (clean_text text clean report)) events
  pub read : history_of (clean_text text clean report) ≡ events
  pub one_line_each : line_count (clean_text text clean report) ≡ fit_signs (signs text clean report)
  -- Whoever answers the clean script, a chip of either edition or an 8355, in any state, answers these events, in order.
  pub answered : (c : Chip) → answers_of (by_device device pins_of) c (clean_text text clean report) ≡ answers_to device pins_of c events
  pub answered8355 : (c : Chip8355)
      → answers_of (by_device device8355 pins_of_8355) c (clean_text text clean report) ≡ answers_to device8355 pins_of_8355 c events
  -- Mended again, it stays as it is.
  pub again : (clean' report' : List ℕ) → length (clean_text text clean report) ≤ length clean'
      → line_count (clean_text text clean report) ≤ length report' → Stays (clean_text text clean report) clean' report'

-- A refused call answers its number and nothing else, and changes neither output.
abbrev pub RefusedWith : ℕ → List ℕ → List ℕ → List ℕ → Type 0
RefusedWith n text clean report = (answer_of text clean report ≡ n) × (clean_left text clean report ≡ clean) × (report_left text clean report ≡ report)

-- The number of every call, where cs and ss are the clean form of its text and the signs of its lines: 6 where the text or its clean form has more
-- than 4,096 bytes; then 7 where an output is too short; and else 0. The clean form has one byte more than the text at most.
pub record Numbered (text clean report cs ss : List ℕ) : Type 0 where
  pub too_long : 4096 < length text → RefusedWith 6 text clean report
  pub clean_too_long : 4096 < length cs → RefusedWith 6 text clean report
  pub no_clean_room : length text ≤ 4096 → length cs ≤ 4096 → length clean < length cs → RefusedWith 7 text clean report
  pub no_report_room : length text ≤ 4096 → length cs ≤ 4096 → length report < length ss → RefusedWith 7 text clean report
  pub accepted : length text ≤ 4096 → length cs ≤ 4096 → length cs ≤ length clean → length ss ≤ length report → answer_of text clean report % 256 ≡ 0
  pub one_more : length cs ≤ length text + 1

-- The call of Rattle tells what the call for C answers: where it is accepted, both lengths; where it is refused, the refusal with that number.
abbrev pub Tells : List ℕ → List ℕ → List ℕ → Result Lengths MendRefusal → Type 0
Tells text clean report (Ok lengths) =
    (answer_of text clean report % 256 ≡ 0) × (clean_length text clean report ≡ lengths.clean) × (sign_count text clean report ≡ lengths.report)
Tells text clean report (Err TooLong) = answer_of text clean report ≡ 6
Tells text clean report (Err NoRoom) = answer_of text clean report ≡ 7
