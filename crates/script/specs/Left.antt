-- What a script leaves: the state after its last line, and how many lines were refused ("Script and program", "Why the interrupt is quiet").
use Rattle.std.specs.Prelude.{cond, not, List, [], ◌∷◌, ℕ, ◌+◌, eqb, Result, Ok, Err}
use Rattle.bits.specs.Bit.{num}
use Rattle.text.specs.Lines.{Line, lines_of}
use Rattle.script.specs.declared.RunRefusal.{RunRefusal}
use Rattle.script.specs.Answers.{Answerer, left_after}
use Rattle.script.specs.Run.{too_long, too_long_number, run_refusal_number}

-- The number of the text, as a run has it, the state, and the count of lines whose own number is not 0.
pub record Left (S : Type 0) : Type 0 where
  pub number : ℕ
  pub state : S
  pub refused : ℕ

abbrev pub left : {S : Type 0} → ℕ → S → ℕ → Left S
left n s count = record { number = n; state = s; refused = count }

module _ {S : Type 0} (a : Answerer S) where
  -- How many of some lines are refused, each in the state that the one before it left.
  abbrev pub refused_among : S → List Line → ℕ
  refused_among s [] = 0
  refused_among s (l ∷ ls) = num (not (eqb (a.takes s l).number 0)) + refused_among (a.takes s l).state ls

  -- What the lines of a text leave: the state, and the count of those that were refused.
  abbrev pub walked_through : S → List ℕ → Left S
  walked_through s text = left 0 (left_after a s text) (refused_among s (lines_of text))

  -- A text that is too long is not run: it has that number, and leaves the state that it would have met.
  abbrev pub left_by : S → List ℕ → Left S
  left_by s text = cond (too_long text) (left too_long_number s 0) (walked_through s text)

-- What an answer tells of that, with the state behind it.
abbrev pub left_told : {S : Type 0} → Result ℕ RunRefusal → S → Left S
left_told (Ok count) s = left 0 s count
left_told (Err r) s = left (run_refusal_number r) s 0
