-- What a script is answered, line by line ("Script and program").
use Rattle.std.specs.Prelude.{◌≡◌, refl, List, [], ◌∷◌, ◌++◌, ℕ, zero, suc, ◌+◌, ◌*◌}
use Rattle.bus.specs.Device.{Device, Given, gives, step_in}
use Rattle.bus.specs.Cycles.{refused_in}
use Rattle.bus.specs.declared.Pins.{Pins}
use Rattle.text.specs.Digits.{in_digits}
use Rattle.text.specs.Lines.{lf, Line, lines_of}
use Rattle.text.specs.Frames.{Frame, Event, NoFrame, frame_in}
use Rattle.script.specs.declared.Answer.{Answer}

-- Whoever answers scripts, and has states S: what it makes of a line, how many cards there are, and the levels that a port of a card shows. The last
-- field is a law: no line changes the number of cards, so that every answer line is as wide as the first.
pub record Answerer (S : Type 0) : Type 0 where
  pub takes : S → Line → Given S
  pub cards : S → ℕ
  pub levels : S → ℕ → ℕ → ℕ
  pub cards_stay : (s : S) (l : Line) → cards (takes s l).state ≡ cards s

-- What an answer says of an event, with the state that the event left.
abbrev pub given_by : {S : Type 0} → S → Answer → Given S
given_by s a = gives s a.number a.byte

-- The number of a line that is no frame: that of an event of no kind.
abbrev pub no_frame_number : ℕ
no_frame_number = 1

-- A frame is an event of the device, whichever it is; what is no frame is refused.
unfoldable pub acted_in : {S R : Type 0} → Device S R → S → Frame → Given S
acted_in dev s (Event k x d) = step_in dev s k x d
acted_in dev s NoFrame = refused_in s no_frame_number

-- A device on the bus is one card, and shows the levels of its own pin view.
abbrev pub by_device : {S R : Type 0} → Device S R → (S → ℕ → Pins) → Answerer S
by_device dev pins = record {
  takes = λ s l. acted_in dev s (frame_in l);
  cards = λ s. 1;
  levels = λ s i p. (pins s p).levels;
  cards_stay = λ s l. refl;
}

-- The levels of A, B and C of a card.
abbrev pub levels_text : ℕ → ℕ → ℕ → List ℕ
levels_text a b c = in_digits a ++ in_digits b ++ in_digits c

-- An answer line: the number, the byte, the digits of the levels, and LF.
unfoldable pub line_text : ℕ → ℕ → List ℕ → List ℕ
line_text number byte levels = in_digits number ++ in_digits byte ++ levels ++ (lf ∷ [])

-- The digits of the number and the byte, and of a card's levels.
abbrev pub front_digits : ℕ
front_digits = 4

abbrev pub card_digits : ℕ
card_digits = 6

-- The bytes of an answer line where there are n cards: these digits, and LF.
abbrev pub line_width : ℕ → ℕ
line_width n = front_digits + card_digits * n + 1

-- Those where there is one.
abbrev pub answer_width : ℕ
answer_width = 11

module _ {S : Type 0} (a : Answerer S) where
  -- The levels of n cards, from card i on; and of all.
  unfoldable pub levels_from : S → ℕ → ℕ → List ℕ
  levels_from s i zero = []
  levels_from s i (suc n) = levels_text (a.levels s i 0) (a.levels s i 1) (a.levels s i 2) ++ levels_from s (suc i) n

  abbrev pub all_levels : S → List ℕ
  all_levels s = levels_from s 0 (a.cards s)

  -- The answer line to what a line gives.
  abbrev pub line_after : Given S → List ℕ
  line_after g = line_text g.number g.byte (all_levels g.state)

  -- The answers to some lines, each of which meets the state that the one before it left; and the state behind them.
  unfoldable pub answers_from : S → List Line → List ℕ
  answers_from s [] = []
  answers_from s (l ∷ ls) = line_after (a.takes s l) ++ answers_from (a.takes s l).state ls

  abbrev pub state_after : S → List Line → S
  state_after s [] = s
  state_after s (l ∷ ls) = state_after (a.takes s l).state ls

  -- The answers to a text, and what its lines leave.
  abbrev pub answers_of : S → List ℕ → List ℕ
  answers_of s text = answers_from s (lines_of text)

  abbrev pub left_after : S → List ℕ → S
  left_after s text = state_after s (lines_of text)
