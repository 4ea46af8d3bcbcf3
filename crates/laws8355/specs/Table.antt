-- The events of the 8355 as a table with a row for each kind, in the account's own words ("The 8355 ports", "Events and numbers").
use Rattle.std.specs.Prelude.{List, [], ◌∷◌, ℕ, get_or}
use Rattle.bus.specs.Event.{Event}
use Rattle.bus.specs.declared.Phase.{Phase}
use Rattle.bus.specs.declared.Phase.TheVariants.{Idle, Reading, Writing}

-- What comes to the registers and to the lines. `reset`: RESET is high. `written x d`: IOW returns high, with the byte d for the register that
-- AD1 and AD0 have selected by x. `levels x d`: the levels d come onto port x.
pub data Act : Type 0 where
  nothing reset : Act
  written levels : ℕ → ℕ → Act

-- A row: the number of the event and, where that is 0, the phase that it leaves and what it comes to.
pub record Row : Type 0 where
  pub number : ℕ
  pub leaves : Phase
  pub act : Act

abbrev pub row : ℕ → Phase → Act → Row
row n ph t = record { number = n; leaves = ph; act = t }

-- A cycle that would begin: 4 where another runs.
abbrev pub begun : Phase → ℕ
begun Idle = 0
begun (Reading x) = 4
begun (Writing x d) = 4

-- The end of the cycle that runs: a read comes to nothing, and a write to its byte. Where none runs it is 5.
abbrev pub ended : Phase → Row
ended Idle = row 5 Idle nothing
ended (Reading x) = row 0 Idle nothing
ended (Writing x d) = row 0 Idle (written x d)

-- What is no kind.
abbrev pub unknown : Phase → Row
unknown ph = row 1 ph nothing

-- The rows of the kinds 00 to 05, of which 04 is none, for the operands x and d. Ports A and B and their direction registers stand at the addresses
-- 0 to 3; the direction registers can be written and not read; the ports 0 and 1 have lines. 2 is for every place that there is not.
abbrev pub rows : Phase → ℕ → ℕ → List Row
rows ph x d =
    row 0 Idle reset
    ∷ row (get_or (begun ph ∷ begun ph ∷ 3 ∷ 3 ∷ []) x 2) (Reading x) nothing
    ∷ ended ph
    ∷ row (get_or (begun ph ∷ begun ph ∷ begun ph ∷ begun ph ∷ []) x 2) (Writing x d) nothing
    ∷ unknown ph
    ∷ row (get_or (0 ∷ 0 ∷ []) x 2) ph (levels x d)
    ∷ []

-- The row of an event.
abbrev pub row_of : Phase → Event → Row
row_of ph e = get_or (rows ph e.first e.second) e.kind (unknown ph)
