-- The lines of a text in pieces: those up to an LF do not hang on what follows.
-- Rests on FirstLine.
use Rattle.std.proofs.Common.{◌≡◌, ◌∙◌, refl, ap, Bool, true, false, cond, List, [], ◌∷◌, ◌++◌, ℕ, ◌<◌, not-suc-le-zero, arith, eqb, length, length-append}
use Rattle.text.specs.Lines.{lf, Line, ended, before_lines, lines_of}
use Rattle.text.proofs.FirstLine.{a_line}

before_append : (b : ℕ) (ls ms : List Line) → 0 < length ls → before_lines b (ls ++ ms) ≡ before_lines b ls ++ ms
before_append b [] ms h = absurd (not-suc-le-zero h)
before_append b (l ∷ ls) ms h = refl

pub lines_append : (text later : List ℕ) → lines_of (text ++ lf ∷ later) ≡ lines_of (text ++ lf ∷ []) ++ lines_of later
unfolding lines_of
lines_append [] later = refl
lines_append (b ∷ text) later = go (eqb b lf) (lines_append text later) (a_line (text ++ lf ∷ []) (omega (arith, length-append text (lf ∷ []))))
  where
    go : (t : Bool)
        → lines_of (text ++ lf ∷ later) ≡ lines_of (text ++ lf ∷ []) ++ lines_of later
        → 0 < length (lines_of (text ++ lf ∷ []))
        → cond t (ended [] ∷ lines_of (text ++ lf ∷ later)) (before_lines b (lines_of (text ++ lf ∷ later)))
        ≡ cond t (ended [] ∷ lines_of (text ++ lf ∷ [])) (before_lines b (lines_of (text ++ lf ∷ []))) ++ lines_of later
    go true same some = ap (λ (ls : List Line). ended [] ∷ ls) same
    go false same some = ap (λ (ls : List Line). before_lines b ls) same ∙ before_append b (lines_of (text ++ lf ∷ [])) (lines_of later) some
