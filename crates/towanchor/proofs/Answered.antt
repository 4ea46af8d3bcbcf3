-- With room for 4,096 answers, what a run leaves in front of the output, or its number alone, is what the program prints of a script; and it is
-- refused where the text is too long.
-- Rests on bits' Logic and on script's Numbers, Outcome and Pieces.
use Rattle.std.proofs.Common.{◌≡◌, Ok, Err, ℕ, ◌*◌, ◌≤◌, Bool, true, false, List, length, take, drop, cond, ap, sym, ◌∙◌, refl, take_at, eqb, arith, eq-eqb}
use Rattle.bits.proofs.Logic.{contrary}
use Rattle.bus.specs.Device.{Device}
use Rattle.bus.specs.declared.Pins.{Pins}
use Rattle.chip.specs.declared.Edition.TheVariants.{Older, Newer}
use Rattle.chip.specs.State.{all_high, power_up_as}
use Rattle.chip.specs.Pins as chip_pins
use Rattle.chip.specs.Step as chip
use Rattle.i8355.specs.State as i8355_state
use Rattle.i8355.specs.Views as i8355_views
use Rattle.i8355.specs.Step as i8355
use Rattle.text.specs.Lines.{line_count}
use Rattle.script.specs.Answers.{Answerer, answer_width, by_device, answers_of}
use Rattle.script.specs.declared.RunRefusal.{RunRefusal}
use Rattle.script.specs.Run.{run_told, longest_script, too_long, too_long_number, run_number, run_refusal_number, run_refusal_never_0, room_for, Ran, ran_of, output_left}
use Rattle.script.proofs.Numbers.{number_given}
use Rattle.script.proofs.Outcome.{room_enough}
use Rattle.script.proofs.Pieces.{answers_length}
use Rattle.prints.specs.declared.Device.{Device as Which}
use Rattle.prints.specs.declared.Device.TheVariants.{I8255A, I82C55A, I8355}
use Rattle.prints.specs.Printed.{refusal_text, printed_by, printed}
use Rattle.towanchor.specs.ByDevice.{output_by}

module _ (text out : List ℕ) (enough : answer_width * longest_script ≤ length out) where
  number_by : (n : ℕ) → n ≡ run_number answer_width text (length out) → n ≡ cond (too_long text) too_long_number 0
  number_by n is = is ∙ room_enough answer_width text (length out) enough

  module _ {S R : Type 0} (dev : Device S R) (pins : S → ℕ → Pins) (s : S) where
    abbrev by : Answerer S
    by = by_device dev pins

    answered_by : (lines : ℕ) → run_told (Ok lines) ≡ ran_of answer_width text (length out)
        → (take (answer_width * lines) (output_left by s text out) ≡ printed_by by s text) × (false ≡ too_long text)
    unfolding printed_by
    answered_by lines is = go (too_long text) refl
      where
        go : (long : Bool) → too_long text ≡ long
            → (take (answer_width * lines) (output_left by s text out) ≡ printed_by by s text) × (false ≡ too_long text)
        go true l = absurd (omega (arith, rw (l) at (number_by _ (number_given answer_width text (length out) _ is))))
        go false l =
            let counted : lines ≡ line_count text = rw (room_enough answer_width text (length out) enough, l) at (ap (λ (r : Ran). r.lines) is) in (
              rw (counted, room_enough answer_width text (length out) enough, l) (take_at (answers_of by s text) (drop (room_for answer_width text) out) _ (answers_length by s text)),
              sym l,
            )

    refused_by : (r : RunRefusal) → run_told (Err r) ≡ ran_of answer_width text (length out)
        → (refusal_text (run_refusal_number r) ≡ printed_by by s text) × (true ≡ too_long text)
    unfolding printed_by
    refused_by r is = go (too_long text) refl
      where
        number : run_refusal_number r ≡ cond (too_long text) too_long_number 0
        number = number_by _ (number_given answer_width text (length out) _ is)

        go : (long : Bool) → too_long text ≡ long → (refusal_text (run_refusal_number r) ≡ printed_by by s text) × (true ≡ too_long text)
        go true l = (rw (number, l) refl, sym l)
        go false l = absurd (contrary (eqb (run_refusal_number r) 0) (run_refusal_never_0 r) (eq-eqb _ 0 (number ∙ rw (l) refl)))

  pub answered : (device : Which) (lines : ℕ) → run_told (Ok lines) ≡ ran_of answer_width text (length out)
      → (take (answer_width * lines) (output_by device text out) ≡ printed device text) × (false ≡ too_long text)
  unfolding printed
  answered I8255A = answered_by chip.device chip_pins.pins_of (power_up_as Older all_high)
  answered I82C55A = answered_by chip.device chip_pins.pins_of (power_up_as Newer all_high)
  answered I8355 = answered_by i8355.device i8355_views.pins_of i8355_state.power_up

  pub refused : (device : Which) (r : RunRefusal) → run_told (Err r) ≡ ran_of answer_width text (length out)
      → (refusal_text (run_refusal_number r) ≡ printed device text) × (true ≡ too_long text)
  unfolding printed
  refused I8255A = refused_by chip.device chip_pins.pins_of (power_up_as Older all_high)
  refused I82C55A = refused_by chip.device chip_pins.pins_of (power_up_as Newer all_high)
  refused I8355 = refused_by i8355.device i8355_views.pins_of i8355_state.power_up
