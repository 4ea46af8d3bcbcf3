-- What the program prints of a script ("Script and program", "A rack of cards").
use Rattle.std.specs.Prelude.{Bool, cond, not, ◌||◌, List, [], ◌∷◌, ◌++◌, ℕ}
use Rattle.text.specs.Digits.{in_digits}
use Rattle.text.specs.Lines.{lf}
use Rattle.chip.specs.declared.Edition.TheVariants.{Older, Newer}
use Rattle.chip.specs.State.{all_high, power_up_as}
use Rattle.chip.specs.Pins as chip_pins
use Rattle.chip.specs.Step as chip
use Rattle.i8355.specs.State as i8355_state
use Rattle.i8355.specs.Views as i8355_views
use Rattle.i8355.specs.Step as i8355
use Rattle.script.specs.Answers.{Answerer, by_device, answers_from, answers_of}
use Rattle.script.specs.Run.{too_long, too_long_number}
use Rattle.rack.specs.Bases.{bad_rack_number}
use Rattle.script.specs.RackAnswers.{answering}
use Rattle.script.specs.RackRun.{names_rack, rack_named, to_answer}
use Rattle.prints.specs.declared.Device.{Device}
use Rattle.prints.specs.declared.Device.TheVariants.{I8255A, I82C55A, I8355}

-- A number alone on its line.
abbrev pub refusal_text : ℕ → List ℕ
refusal_text n = in_digits n ++ (lf ∷ [])

-- The answers of whoever meets the text in a state, or 06 where the text is longer than a script may be.
unfoldable pub printed_by : {S : Type 0} → Answerer S → S → List ℕ → List ℕ
printed_by a s text = cond (too_long text) (refusal_text too_long_number) (answers_of a s text)

-- Those of a device at its power-up. A chip of either edition has every line high then, and so has an 8355.
unfoldable pub printed : Device → List ℕ → List ℕ
printed I8255A text = printed_by (by_device chip.device chip_pins.pins_of) (power_up_as Older all_high) text
printed I82C55A text = printed_by (by_device chip.device chip_pins.pins_of) (power_up_as Newer all_high) text
printed I8355 text = printed_by (by_device i8355.device i8355_views.pins_of) i8355_state.power_up text

-- Those of a rack, which the first line names; or 06, or 09 where that is no rack.
unfoldable pub printed_of_rack : List ℕ → List ℕ
printed_of_rack text =
    cond (too_long text) (refusal_text too_long_number)
    (cond (not (names_rack text)) (refusal_text bad_rack_number)
    (answers_from answering (rack_named text) (to_answer text)))

-- Whether the whole of a rack's script is refused. A device's script is refused where it is too long.
abbrev pub refuses_rack : List ℕ → Bool
refuses_rack text = too_long text || not (names_rack text)
