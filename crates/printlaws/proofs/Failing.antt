-- A text is refused exactly where a number alone is printed of it, 06, or of a rack 06 or 09: answers are none, or five bytes or more.
-- Rests on bits' Logic, on script's Pieces and RackEnough, and on FailingToMend, FailingToTrim and FailingToExplain.
use Rattle.std.proofs.Common.{◌≡◌, ◌↔◌, inl, inr, ℕ, zero, suc, ◌+◌, ◌*◌, Bool, true, false, List, length, ap, sym, ◌∙◌, refl, eqb, arith, ne_eqb}
use Rattle.bits.proofs.Logic.{contrary}
use Rattle.bus.specs.Device as devices
use Rattle.bus.specs.declared.Pins.{Pins}
use Rattle.text.specs.Digits.{digit_code}
use Rattle.text.specs.Lines.{line_count}
use Rattle.chip.specs.Pins as chip_pins
use Rattle.chip.specs.Step as chip
use Rattle.i8355.specs.Views as i8355_views
use Rattle.i8355.specs.Step as i8355
use Rattle.script.specs.Answers.{line_width, by_device, answers_of, answers_from}
use Rattle.script.specs.Run.{too_long}
use Rattle.script.proofs.Pieces.{answers_length}
use Rattle.script.specs.RackAnswers.{answering}
use Rattle.script.specs.RackRun.{names_rack, rack_named, to_answer}
use Rattle.script.proofs.RackEnough as racks
use Rattle.prints.specs.declared.Device.{Device}
use Rattle.prints.specs.declared.Device.TheVariants.{I8255A, I82C55A, I8355}
use Rattle.prints.specs.Printed.{printed, printed_by, printed_of_rack, refuses_rack}
use Rattle.printlaws.specs.Refused.{length_of_a_number, long_text_refused, first_line_refused, IsEither}
use Rattle.printlaws.proofs.FailingToMend.{mending}
use Rattle.printlaws.proofs.FailingToTrim.{six_or_one}
use Rattle.printlaws.proofs.FailingToExplain.{sentence}

-- Lines of five bytes or more are not three bytes.
not_alone : (w n : ℕ) (bytes : List ℕ) → length bytes ≡ (5 + w) * n → eqb (length bytes) length_of_a_number ≡ false
not_alone w zero bytes e = ne_eqb (length bytes) length_of_a_number (λ three. omega (arith, e, three))
not_alone w (suc n) bytes e = ne_eqb (length bytes) length_of_a_number (λ three. omega (arith, e, three))

as_wide : (cards n : ℕ) → line_width cards * n ≡ (5 + 6 * cards) * n
as_wide cards n = ap (λ w. w * n) (omega (arith))

module _ {S R : Type 0} (dev : devices.Device S R) (pins : S → ℕ → Pins) (s : S) (text : List ℕ) where
  by_device_lem : too_long text ≡ eqb (length (printed_by (by_device dev pins) s text)) length_of_a_number
  unfolding printed_by
  by_device_lem = go (too_long text) refl
    where
      go : (long : Bool) → too_long text ≡ long → too_long text ≡ eqb (length (printed_by (by_device dev pins) s text)) length_of_a_number
      go true e = rw (e) refl
      go false e = rw (e) (sym (not_alone 6 (line_count text) (answers_of (by_device dev pins) s text) (answers_length (by_device dev pins) s text)))

pub by_rack : (text : List ℕ) → refuses_rack text ≡ eqb (length (printed_of_rack text)) length_of_a_number
unfolding printed_of_rack
by_rack text = go (too_long text) (names_rack text) refl refl
  where
    go : (long rack : Bool) → too_long text ≡ long → names_rack text ≡ rack → refuses_rack text ≡ eqb (length (printed_of_rack text)) length_of_a_number
    go true rack l k = rw (l) refl
    go false false l k = rw (l, k) refl
    go false true l k =
        rw (l, k)
        (sym (not_alone (6 * (rack_named text).count) (length (to_answer text)) (answers_from answering (rack_named text) (to_answer text))
        (racks.answers_length (rack_named text) (to_answer text) ∙ as_wide (rack_named text).count (length (to_answer text)))))

pub by_any : (device : Device) (text : List ℕ) → too_long text ≡ eqb (length (printed device text)) length_of_a_number
unfolding printed
by_any I8255A text = by_device_lem chip.device chip_pins.pins_of _ text
by_any I82C55A text = by_device_lem chip.device chip_pins.pins_of _ text
by_any I8355 text = by_device_lem i8355.device i8355_views.pins_of _ text

six_of : (device : Device) (text : List ℕ) → too_long text ≡ true → printed device text ≡ long_text_refused
unfolding printed printed_by digit_code
six_of I8255A text long = rw (long) refl
six_of I82C55A text long = rw (long) refl
six_of I8355 text long = rw (long) refl

pub six : (device : Device) (text : List ℕ) → (too_long text ≡ true) ↔ (printed device text ≡ long_text_refused)
six device text = (six_of device text, λ is. by_any device text ∙ ap (λ bytes. eqb (length bytes) length_of_a_number) is)

pub six_or_nine : (text : List ℕ)
    → (refuses_rack text ≡ true) ↔ IsEither (printed_of_rack text) long_text_refused first_line_refused
unfolding printed_of_rack digit_code
six_or_nine text = (go (too_long text) (names_rack text) refl refl, back)
  where
    go : (long rack : Bool) → too_long text ≡ long → names_rack text ≡ rack → refuses_rack text ≡ true
        → IsEither (printed_of_rack text) long_text_refused first_line_refused
    go true rack l k refused = inl (rw (l) refl)
    go false false l k refused = inr (rw (l, k) refl)
    go false true l k refused = absurd (contrary false refl (rw (l, k) at refused))

    back : IsEither (printed_of_rack text) long_text_refused first_line_refused → refuses_rack text ≡ true
    back (inl is) = by_rack text ∙ ap (λ bytes. eqb (length bytes) length_of_a_number) is
    back (inr is) = by_rack text ∙ ap (λ bytes. eqb (length bytes) length_of_a_number) is

-- What is said of texts that are refused as a whole.
pub ruleset failing = (by_any, by_rack, mending, six, six_or_nine, six_or_one, sentence)
