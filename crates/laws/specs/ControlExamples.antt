-- What a read of control gives after a history, in numbers: of the newer edition and of the older ("The 82C55A").
use Rattle.std.specs.Prelude.{List, [], ◌∷◌, ◌++◌, ℕ}
use Rattle.bus.specs.Event.{Event, event}
use Rattle.bus.specs.Histories.{write, read_from, cycle_end}
use Rattle.bus.specs.Device.{Given}
use Rattle.chip.specs.declared.Chip.{Chip}
use Rattle.chip.specs.declared.Edition.{Edition}
use Rattle.chip.specs.declared.Edition.TheVariants.{Older, Newer}
use Rattle.chip.specs.State.{all_high, power_up_as}
use Rattle.chip.specs.Step.{accepted, stepped}
use Rattle.laws.specs.Marked.{after}

-- An edition, a history from its power-up with every line high, and the number and the byte of the read of control that then begins.
pub record Example : Type 0 where
  pub edition : Edition
  pub history : List Event
  pub number : ℕ
  pub byte : ℕ

-- An example, written in one line.
infixl 60 ◌past◌gives◌with◌
abbrev pub ◌past◌gives◌with◌ : Edition → List Event → ℕ → ℕ → Example
ed past es gives n with b = record { edition = ed; history = es; number = n; byte = b }

-- What the step gives.
abbrev pub read_of_control : Edition → List Event → Given Chip
read_of_control ed es = stepped (after (accepted (power_up_as ed all_high) 0) es).state (event 1 3 0)

-- The newer edition, in the first row at power-up: a mode word is read back, also after a bit set/reset word and after a read of control, and 9B
-- after a reset. While a cycle runs, be it the write of a mode word or a read of control, the read is 4; and a word that a reset drops is never
-- in force. The older edition has nothing to give.
abbrev pub examples : List Example
examples =
    (Newer past [] gives 0 with 0x9b)
    ∷ (Newer past write 3 0xb4 gives 0 with 0xb4)
    ∷ (Newer past (write 3 0xb4 ++ write 3 0x09) gives 0 with 0xb4)
    ∷ (Newer past (write 3 0xb4 ++ read_from 3 ++ cycle_end) gives 0 with 0xb4)
    ∷ (Newer past (write 3 0xb4 ++ event 0 0 0 ∷ []) gives 0 with 0x9b)
    ∷ (Newer past (write 3 0xb4 ++ event 3 3 0x80 ∷ []) gives 4 with 0)
    ∷ (Newer past (write 3 0xb4 ++ event 3 3 0x80 ∷ event 0 0 0 ∷ []) gives 0 with 0x9b)
    ∷ (Newer past read_from 3 gives 4 with 0)
    ∷ (Older past write 3 0xb4 gives 3 with 0)
    ∷ (Older past (event 3 3 0xb4 ∷ []) gives 3 with 0)
    ∷ []

-- The number and the byte of each example of a list, as the model gives them and as the list has them.
abbrev pub model_gives : List Example → List ℕ
model_gives [] = []
model_gives (x ∷ xs) = (read_of_control x.edition x.history).number ∷ (read_of_control x.edition x.history).byte ∷ model_gives xs

abbrev pub list_gives : List Example → List ℕ
list_gives [] = []
list_gives (x ∷ xs) = x.number ∷ x.byte ∷ list_gives xs
