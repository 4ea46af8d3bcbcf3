-- A script, by the account alone: its answers, and what its run gives back ("Script and program").
use Rattle.std.specs.Prelude.{◌≡◌, Bool, false, not, List, [], ◌∷◌, ◌++◌, ℕ, ◌+◌, ◌*◌, ◌<◌, ◌≤◌, eqb, length}
use Rattle.bits.specs.Bit.{num}
use Rattle.bus.specs.Event.{Event}
use Rattle.chip.specs.declared.Edition.{Edition}
use Rattle.chip.specs.State.{all_high, power_up_as}
use Rattle.chip.specs.Pins.{pins_of}
use Rattle.chip.specs.Step.{device}
use Rattle.text.specs.History.{history_of}
use Rattle.script.specs.Answers.{by_device, levels_text, line_text, answer_width, answers_of}
use Rattle.script.specs.Run.{ran_of}
use Rattle.fates.specs.Kinds.{kind_of}
use Rattle.account.specs.Acts.{number_by}
use Rattle.account.specs.Account.{Account, account_next, opened}
use Rattle.account.specs.Views.{levels_shown, byte_answered}

-- The answer line of an event: its number and its byte, and the levels of A, B and C after it.
abbrev pub line_by : Account → Event → List ℕ
line_by a e =
    line_text (number_by a.surroundings.edition a.surroundings.phase (kind_of e)) (byte_answered a e)
    (levels_text (levels_shown (account_next a e) 0) (levels_shown (account_next a e) 1) (levels_shown (account_next a e) 2))

-- The answer lines of a history.
abbrev pub lines_by : Account → List Event → List ℕ
lines_by a [] = []
lines_by a (e ∷ es) = line_by a e ++ lines_by (account_next a e) es

-- What is promised of a text for a chip of either edition: its answers are the account's, from a power-up with every line high.
abbrev pub AnsweredBy : Edition → List ℕ → Type 0
AnsweredBy ed text = answers_of (by_device device pins_of) (power_up_as ed all_high) text ≡ lines_by (opened ed all_high) (history_of text)

-- How many lines a text has, by its LFs: one for each, and one more where bytes follow the last.
abbrev pub endings : List ℕ → ℕ
endings [] = 0
endings (b ∷ text) = num (eqb b 10) + endings text

abbrev pub has_rest : List ℕ → Bool
has_rest [] = false
has_rest (b ∷ []) = not (eqb b 10)
has_rest (b ∷ c ∷ text) = has_rest (c ∷ text)

abbrev pub line_total : List ℕ → ℕ
line_total text = endings text + num (has_rest text)

-- What a run gives back, in plain words: 6 for a text of more than 4,096 bytes, whatever the room; else 7 where the output is shorter than
-- eleven bytes for each line; and else 0 and the number of lines.
pub record RunNumbered (text : List ℕ) (room : ℕ) : Type 0 where
  pub too_long : 4096 < length text → ran_of answer_width text room ≡ record { number = 6; lines = 0 }
  pub no_room : length text ≤ 4096 → room < 11 * line_total text → ran_of answer_width text room ≡ record { number = 7; lines = 0 }
  pub runs : length text ≤ 4096 → 11 * line_total text ≤ room → ran_of answer_width text room ≡ record { number = 0; lines = line_total text }
