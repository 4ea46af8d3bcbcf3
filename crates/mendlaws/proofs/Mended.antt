-- What is promised of an accepted call: what it leaves, and what that means.
-- Rests on AllLines, OneLine, Calls and Stays, on mend's Numbers and Cleaning, and on script's History.
use Rattle.std.proofs.Common.{◌≡◌, ◌∙◌, refl, ap, sym, List, ◌∷◌, ◌++◌, map, ℕ, suc, ◌%◌, arith, length}
use mathlib.Core.List.{flat_map}
use lib.ListN.{length-map}
use Rattle.bus.specs.Event.{Event}
use Rattle.chip.specs.Pins.{pins_of}
use Rattle.chip.specs.Step.{device}
use Rattle.i8355.specs.Views.{pins_of as pins_of_8355}
use Rattle.i8355.specs.Step.{device as device8355}
use Rattle.text.specs.Lines.{Line, lines_of}
use Rattle.text.specs.Frames.{frame_in}
use Rattle.text.specs.History.{event_of, history_of}
use Rattle.script.proofs.History.{history_answered}
use Rattle.script.specs.History.{answers_to}
use Rattle.mend.specs.Line.{sign_of}
use Rattle.mend.specs.Mend.{clean_of, report_of}
use Rattle.mend.proofs.Cleaning.{clean_in}
use Rattle.mend.proofs.Numbers.{number_answered}
use Rattle.mendlaws.specs.Says.{AllSay}
use Rattle.mendlaws.specs.Becomes.{Becomes, kept, mended as mended_so, blank, unfit, AllBecome, none, next}
use Rattle.mendlaws.specs.Promise.{answer_of, clean_text, signs, fit_signs, Mended}
use Rattle.mendlaws.proofs.OneLine.{events_of}
use Rattle.mendlaws.proofs.AllLines.{all_become, all_say, read_so}
use Rattle.mendlaws.proofs.Calls.{number, fits, clean_is, signs_are, clean_written_lem, signs_written_lem, one_each_lem, clean_as_long_lem, report_as_long_lem, clean_behind_lem, report_behind_lem}
use Rattle.mendlaws.proofs.Stays.{stays}

-- As many lines are fit as say an event.
fit_one : {l : Line} {s : ℕ} {part : List ℕ} {es : List Event} → Becomes l s part es → (ss : List ℕ) (n : ℕ) → fit_signs ss ≡ n
    → (later : List Event) → length later ≡ n → fit_signs (s ∷ ss) ≡ length (es ++ later)
fit_one (kept says) ss n is later long = ap suc (is ∙ sym long)
fit_one (mended_so says spells other) ss n is later long = ap suc (is ∙ sym long)
fit_one (blank b) ss n is later long = is ∙ sym long
fit_one (unfit unspelled some) ss n is later long = is ∙ sym long

fit_all : {ls : List Line} {ss cs : List ℕ} {es : List Event} → AllBecome ls ss cs es → fit_signs ss ≡ length es
fit_all none = refl
fit_all (next {signs} {later} one others) = fit_one one signs (length later) (fit_all others) later refl

module _ (text clean report : List ℕ) (accepted : answer_of text clean report % 256 ≡ 0) where
  zero : number text clean report ≡ 0
  zero = sym (number_answered text (length clean) (length report)) ∙ accepted

  clean_here : clean_text text clean report ≡ flat_map clean_in (lines_of text)
  unfolding clean_of
  clean_here = clean_is text clean report zero

  signs_here : signs text clean report ≡ map sign_of (lines_of text)
  unfolding report_of
  signs_here = signs_are text clean report zero

  abbrev said : List Event
  said = flat_map events_of (lines_of text)

  become : AllBecome (lines_of text) (signs text clean report) (clean_text text clean report) said
  become = rw (clean_here, signs_here) (all_become (lines_of text))

  none_malformed_lem : AllSay (lines_of (clean_text text clean report)) said
  none_malformed_lem = rw (clean_here) (all_say (lines_of text))

  read : history_of (clean_text text clean report) ≡ said
  read = read_so none_malformed_lem

  pub mended : Mended text clean report
  mended = record {
    clean_written = clean_written_lem text clean report zero;
    signs_written = signs_written_lem text clean report zero;
    one_each = one_each_lem text clean report zero;
    clean_as_long = clean_as_long_lem text clean report zero;
    report_as_long = report_as_long_lem text clean report zero;
    clean_behind = clean_behind_lem text clean report zero;
    report_behind = report_behind_lem text clean report zero;
    events = said;
    become = become;
    none_malformed = none_malformed_lem;
    read = read;
    one_line_each = sym (length-map (lines_of (clean_text text clean report)) (λ (l : Line). event_of (frame_in l))) ∙ ap length read ∙ sym (fit_all become);
    answered = λ c. history_answered device pins_of c (clean_text text clean report) ∙ ap (answers_to device pins_of c) read;
    answered8355 = λ c. history_answered device8355 pins_of_8355 c (clean_text text clean report) ∙ ap (answers_to device8355 pins_of_8355 c) read;
    again = λ clean' report' room room'.
        stays (clean_text text clean report) clean' report' none_malformed_lem
        (omega (arith, ap length (clean_is text clean report zero), (fits text clean report zero).short_clean)) room room';
  }
