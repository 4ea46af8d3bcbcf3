-- The first line of a text, and the lines behind it: by its first LF, or all of it where there is none.
-- Rests on nothing.
use Rattle.std.proofs.Common.{◌≡◌, refl, ap, Bool, true, false, cond, List, [], ◌∷◌, ℕ, zero, suc, ◌+◌, ◌<◌, ◌≤◌, not-suc-le-zero, add-one, arith, eqb, length, get_or, take, drop}
use Rattle.text.specs.Lines.{lf, Line, ended, rest, before_lines, lines_of}

pub a_line : (text : List ℕ) → 0 < length text → 0 < length (lines_of text)
unfolding lines_of
a_line [] some = absurd (not-suc-le-zero some)
a_line (b ∷ text) some = go (eqb b lf) (lines_of text)
  where
    go : (t : Bool) (ls : List Line) → 0 < length (cond t (ended [] ∷ ls) (before_lines b ls))
    go true ls = omega arith
    go false [] = omega arith
    go false (l ∷ ls) = omega arith

pub no_line : (text : List ℕ) → length text ≤ 0 → lines_of text ≡ []
unfolding lines_of
no_line [] none = refl
no_line (b ∷ text) none = absurd (not-suc-le-zero none)

-- A text whose first LF is at a place: the line before it, and the lines behind.
pub line_ended : (text : List ℕ) (end : ℕ) → end < length text → ((k : ℕ) → k < end → eqb (get_or text k 0) lf ≡ false)
    → eqb (get_or text end 0) lf ≡ true → lines_of text ≡ ended (take end text) ∷ lines_of (drop (end + 1) text)
unfolding lines_of
line_ended [] end inside before here = absurd (not-suc-le-zero inside)
line_ended (b ∷ text) zero inside before here = rw here
line_ended (b ∷ text) (suc end) inside before here =
    rw (add-one, before 0 (omega arith))
    (ap (before_lines b) (rw add-one at (line_ended text end (omega (arith, inside)) (λ k below. before (suc k) (omega (arith, below))) here)))

-- A text that is not empty and has no LF: a rest.
pub rest_alone : (text : List ℕ) → 0 < length text → ((k : ℕ) → k < length text → eqb (get_or text k 0) lf ≡ false)
    → lines_of text ≡ rest text ∷ []
unfolding lines_of
rest_alone [] some none = absurd (not-suc-le-zero some)
rest_alone (b ∷ []) some none = rw (none 0 (omega arith))
rest_alone (b ∷ d ∷ text) some none =
    rw (none 0 (omega arith)) (ap (before_lines b) (rest_alone (d ∷ text) (omega arith) (λ k below. none (suc k) (omega (arith, below)))))
