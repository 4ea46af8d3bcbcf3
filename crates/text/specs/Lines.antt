-- The lines of a text ("Script and program").
use Rattle.std.specs.Prelude.{cond, List, [], ◌∷◌, ℕ, eqb, length}

-- The byte that ends a line.
abbrev pub lf : ℕ
lf = 10

-- A line, without its LF, or the rest of a text, which has none.
pub data Line : Type 0 where
  ended : List ℕ → Line
  rest : List ℕ → Line

-- A byte set before a line.
abbrev pub with_byte : ℕ → Line → Line
with_byte b (ended bytes) = ended (b ∷ bytes)
with_byte b (rest bytes) = rest (b ∷ bytes)

-- A byte set before the first of some lines; before none, it is a rest.
abbrev pub before_lines : ℕ → List Line → List Line
before_lines b [] = rest (b ∷ []) ∷ []
before_lines b (l ∷ ls) = with_byte b l ∷ ls

-- Each LF ends a line, which may be blank. What follows the last LF, if anything does, is one line more.
unfoldable pub lines_of : List ℕ → List Line
lines_of [] = []
lines_of (b ∷ text) = cond (eqb b lf) (ended [] ∷ lines_of text) (before_lines b (lines_of text))

-- How many lines a text has, well formed or not.
abbrev pub line_count : List ℕ → ℕ
line_count text = length (lines_of text)
