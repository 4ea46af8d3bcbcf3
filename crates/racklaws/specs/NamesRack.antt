-- The first line of a rack's script, in plain words ("A rack of cards").
use Rattle.std.specs.Prelude.{◌≡◌, List, [], ◌∷◌, ◌++◌, ℕ}
use Rattle.racklaws.specs.Bases.{GoodBases}
use Rattle.racklaws.specs.Digits.{four_digits}

-- Bases written one behind the other, four digits each.
abbrev pub written : List ℕ → List ℕ
written [] = []
written (b ∷ bs) = four_digits b ++ written bs

-- The first line of a text is a rack: it is the bases of the cards, written so, and LF behind them. They are at most eight multiples of 8 up to 7F8,
-- of which no two are equal. Behind it the further lines stand.
pub record NamesRack (text : List ℕ) : Type 0 where
  pub bases : List ℕ
  pub good : GoodBases bases
  pub further : List ℕ
  pub first_line : text ≡ written bases ++ 10 ∷ further
