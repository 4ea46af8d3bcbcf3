-- What the number of an event is by the rows of the table of refusals ("Events and numbers").
use Rattle.std.specs.Prelude.{◌≡◌, true, false, List, [], ◌∷◌, ◌⊎◌, ℕ}
use Rattle.bus.specs.declared.Phase.{Phase}
use Rattle.bus.specs.declared.Limits.{Limits}
use Rattle.bus.specs.Refusals.{Row, rows, number_of}

-- The first row that applies has the number n: the first of all does, and it has that number; or it does not, and so it is with those behind.
abbrev pub First : ℕ → List Row → Type 0
First n [] = ⊥
First n (r ∷ rs) = ((r.applies ≡ true) × (r.number ≡ n)) ⊎ ((r.applies ≡ false) × First n rs)

-- No row applies.
abbrev pub NoneOf : List Row → Type 0
NoneOf [] = Unit {0}
NoneOf (r ∷ rs) = (r.applies ≡ false) × NoneOf rs

-- The number of every event is that of the first row that applies, and of no other.
pub record Numbered (l : Limits) (ph : Phase) (k x : ℕ) : Type 0 where
  pub given : (n : ℕ) → First n (rows l ph k x) → number_of l ph k x ≡ n
  pub only_then : (n : ℕ) → ¬ (n ≡ 0) → number_of l ph k x ≡ n → First n (rows l ph k x)
  pub accepted : NoneOf (rows l ph k x) → number_of l ph k x ≡ 0
  pub only_accepted : number_of l ph k x ≡ 0 → NoneOf (rows l ph k x)
