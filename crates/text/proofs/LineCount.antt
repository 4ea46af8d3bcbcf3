-- A text has no more lines than bytes, and the bytes of its lines, with the LF of each that is ended, are its own.
-- Rests on nothing.
use Rattle.std.proofs.Common.{◌≡◌, ap, Bool, true, false, cond, List, [], ◌∷◌, ℕ, suc, ◌+◌, ◌≤◌, arith, eqb, length}
use Rattle.text.specs.Lines.{lf, Line, ended, rest, before_lines, lines_of}

abbrev bytes_of : Line → ℕ
bytes_of (ended bytes) = suc (length bytes)
bytes_of (rest bytes) = length bytes

abbrev bytes_in : List Line → ℕ
bytes_in [] = 0
bytes_in (l ∷ ls) = bytes_of l + bytes_in ls

-- So many lines make up so many bytes.
abbrev Makes : List Line → ℕ → Type 0
Makes ls n = (length ls ≤ n) × (bytes_in ls ≡ n)

counted : (text : List ℕ) → Makes (lines_of text) (length text)
unfolding lines_of
counted [] = (omega arith, omega arith)
counted (b ∷ text) = go (eqb b lf) (lines_of text) (counted text)
  where
    go : (t : Bool) (ls : List Line) → Makes ls (length text) → Makes (cond t (ended [] ∷ ls) (before_lines b ls)) (suc (length text))
    go true ls so = (omega (arith, so.0), omega (arith, so.1))
    go false [] so = (omega (arith, so.0), omega (arith, so.1))
    go false (ended bytes ∷ ls) so = (omega (arith, so.0), omega (arith, so.1))
    go false (rest bytes ∷ ls) so = (omega (arith, so.0), omega (arith, so.1))

pub lines_at_most : (text : List ℕ) → length (lines_of text) ≤ length text
lines_at_most text = (counted text).0

-- What is left behind the first line is no longer than the text.
pub no_longer : (text left : List ℕ) (l : Line) → lines_of text ≡ l ∷ lines_of left → length left ≤ length text
no_longer text left l is = omega (arith, (counted text).1, (counted left).1, ap bytes_in is)
