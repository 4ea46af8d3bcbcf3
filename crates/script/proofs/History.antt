-- A script is answered as its history is: what is no frame gets what an event of no kind gets.
-- Rests on the bus's Numbering.
use Rattle.std.proofs.Common.{◌≡◌, refl, ap, sym, List, [], ◌∷◌, ◌++◌, map, ℕ}
use Rattle.bus.specs.Kinds.{is_kind}
use Rattle.bus.specs.Device.{Device, run_in}
use Rattle.bus.specs.Begun.{given_in}
use Rattle.bus.specs.declared.Pins.{Pins}
use Rattle.bus.proofs.Numbering.{no_kind_refused}
use Rattle.text.specs.Lines.{Line, lines_of}
use Rattle.text.specs.Frames.{Frame, Event, NoFrame, frame_in}
use Rattle.text.specs.History.{event_of, history_of}
use Rattle.script.specs.Answers.{acted_in, by_device, line_after, answers_from, state_after, answers_of, left_after}
use Rattle.script.specs.History.{answers_to}

module _ {S R : Type 0} (dev : Device S R) where
  pub acted_in_is : (s : S) (f : Frame) → acted_in dev s f ≡ given_in dev s (event_of f)
  unfolding acted_in is_kind
  acted_in_is s (Event k x d) = refl
  acted_in_is s NoFrame = sym (no_kind_refused dev s 0xff 0 0 refl)

  module _ (pins : S → ℕ → Pins) where
    answers_are : (s : S) (ls : List Line) → answers_from (by_device dev pins) s ls ≡ answers_to dev pins s (map (λ (l : Line). event_of (frame_in l)) ls)
    unfolding answers_from
    answers_are s [] = refl
    answers_are s (l ∷ ls) =
        rw (acted_in_is s (frame_in l))
        (ap (λ (t : List ℕ). line_after (by_device dev pins) (given_in dev s (event_of (frame_in l))) ++ t)
        (answers_are (given_in dev s (event_of (frame_in l))).state ls))

    states_are : (s : S) (ls : List Line) → state_after (by_device dev pins) s ls ≡ run_in dev s (map (λ (l : Line). event_of (frame_in l)) ls)
    states_are s [] = refl
    states_are s (l ∷ ls) = rw (acted_in_is s (frame_in l)) (states_are (given_in dev s (event_of (frame_in l))).state ls)

    -- The answers of a device to a text are those that its history is given, whatever the device; and the text leaves what the history leaves.
    pub history_answered : (s : S) (text : List ℕ) → answers_of (by_device dev pins) s text ≡ answers_to dev pins s (history_of text)
    history_answered s text = answers_are s (lines_of text)

    pub history_left : (s : S) (text : List ℕ) → left_after (by_device dev pins) s text ≡ run_in dev s (history_of text)
    history_left s text = states_are s (lines_of text)
