-- A walk through the lines of a text: each line changes the state and the count, and what they will be at the end stays the same.
-- Rests on text's LineCount.
use Rattle.std.proofs.Common.{◌≡◌, Bool, true, false, not, List, [], ◌∷◌, ℕ, ◌+◌, ◌≤◌, arith, eqb, length}
use Rattle.bits.specs.Bit.{num}
use Rattle.text.specs.Lines.{Line, lines_of}
use Rattle.text.proofs.LineCount.{lines_at_most}
use Rattle.script.specs.Answers.{Answerer, state_after, left_after}
use Rattle.script.specs.Left.{refused_among}

-- No more lines are refused than there are, and so the count fits: there are no more lines than bytes.
one_at_most : (b : Bool) → num b ≤ 1
one_at_most true = omega arith
one_at_most false = omega arith

module _ {S : Type 0} (a : Answerer S) where
  refused_at_most : (s : S) (ls : List Line) → refused_among a s ls ≤ length ls
  refused_at_most s [] = omega arith
  refused_at_most s (l ∷ ls) = omega (arith, one_at_most (not (eqb (a.takes s l).number 0)), refused_at_most (a.takes s l).state ls)

  module _ (start : S) (text : List ℕ) where
    -- The lines ls are left; they lead from the state s, with n lines refused so far, to what the whole text leaves.
    pub record Walking (ls : List Line) (s : S) (n : ℕ) : Type 0 where
      pub leads : state_after a s ls ≡ left_after a start text
      pub counts : n + refused_among a s ls ≡ refused_among a start (lines_of text)

    pub fits : (ls : List Line) (s : S) (n : ℕ) → Walking ls s n → n ≤ length text
    fits ls s n way = omega (arith, way.counts, refused_at_most start (lines_of text), lines_at_most text)
