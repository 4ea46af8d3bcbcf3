-- A rule written out as a table: the list that has the rule's answer at each place.
use Rattle.std.specs.Prelude.{List, [], ◌∷◌, ℕ, zero, suc}

-- The rule's answers at i and at the n - 1 places after it.
abbrev pub from : {A : Type 0} → (ℕ → A) → ℕ → ℕ → List A
from f i zero = []
from f i (suc n) = f i ∷ from f (suc i) n

-- The rule's answers at 0 to n - 1.
abbrev pub table : {A : Type 0} → (ℕ → A) → ℕ → List A
table f n = from f 0 n
