-- A script in pieces: what stands up to an LF, and what follows, are answered one after the other.
-- Rests on text's Pieces and on Levels.
use Rattle.std.proofs.Common.{◌≡◌, ◌∙◌, refl, ap, sym, List, [], ◌∷◌, ◌++◌, append_assoc, ℕ, ◌+◌, ◌*◌, mul-zero, mul-suc, arith, length, take, length-append, take_at}
use Rattle.text.specs.Lines.{lf, Line, lines_of}
use Rattle.text.proofs.Pieces.{lines_append}
use Rattle.script.specs.Answers.{Answerer, line_after, answers_from, state_after, answers_of}
use Rattle.script.specs.Run.{room_for, width_of}
use Rattle.script.proofs.Levels.{line_length}

module _ {S : Type 0} (a : Answerer S) where
  same_width : (s : S) (l : Line) → width_of a (a.takes s l).state ≡ width_of a s
  same_width s l = ap (λ n. 4 + 6 * n + 1) (a.cards_stay s l)

  -- One width to a line.
  pub width_each : (s : S) (ls : List Line) → length (answers_from a s ls) ≡ width_of a s * length ls
  unfolding answers_from
  width_each s [] = sym (mul-zero (width_of a s))
  width_each s (l ∷ ls) =
      length-append (line_after a (a.takes s l)) (answers_from a (a.takes s l).state ls)
      ∙ rw (line_length a (a.takes s l), width_each (a.takes s l).state ls, same_width s l)
      (omega (arith, mul-suc (width_of a s) (length ls)))

  pub answers_length : (s : S) (text : List ℕ) → length (answers_of a s text) ≡ room_for (width_of a s) text
  answers_length s text = width_each s (lines_of text)

  answers_append : (s : S) (ls ms : List Line) → answers_from a s (ls ++ ms) ≡ answers_from a s ls ++ answers_from a (state_after a s ls) ms
  unfolding answers_from
  answers_append s [] ms = refl
  answers_append s (l ∷ ls) ms =
      let line : List ℕ = line_after a (a.takes s l) in
      ap (λ (t : List ℕ). line ++ t) (answers_append (a.takes s l).state ls ms)
      ∙ sym (append_assoc line (answers_from a (a.takes s l).state ls) (answers_from a (state_after a (a.takes s l).state ls) ms))

  module _ (s : S) (text later : List ℕ) where
    -- What stands up to an LF is answered as by itself, and what follows in the state that it leaves.
    pub piecewise : answers_of a s (text ++ lf ∷ later)
        ≡ answers_of a s (text ++ lf ∷ []) ++ answers_from a (state_after a s (lines_of (text ++ lf ∷ []))) (lines_of later)
    piecewise = rw (lines_append text later) (answers_append s (lines_of (text ++ lf ∷ [])) (lines_of later))

    pub prefixes_agree : take (room_for (width_of a s) (text ++ lf ∷ [])) (answers_of a s (text ++ lf ∷ later)) ≡ answers_of a s (text ++ lf ∷ [])
    prefixes_agree =
        rw piecewise
        (take_at (answers_of a s (text ++ lf ∷ [])) (answers_from a (state_after a s (lines_of (text ++ lf ∷ []))) (lines_of later))
        (room_for (width_of a s) (text ++ lf ∷ [])) (answers_length s (text ++ lf ∷ [])))
