-- What lasts over a history of the 8355: the byte last written to a port, and the levels last put on it ("The 8355 ports").
use Rattle.std.specs.Prelude.{◌≡◌, true, false, List, [], ◌∷◌, ◌++◌, ℕ}
use Rattle.bits.specs.Bit.{bit_of}
use Rattle.bus.specs.Event.{Event}
use Rattle.bus.specs.Histories.{write, levels}
use Rattle.bus.specs.declared.Phase.TheVariants.{Idle, Writing}
use Rattle.i8355.specs.declared.Chip8355.{Chip8355}
use Rattle.laws8355.specs.Promise.{run}
use Rattle.laws8355.specs.Sheet.{level, drives}

-- None of some events, from the state c on, ends a write to port p.
abbrev pub NoneWritten : ℕ → Chip8355 → List Event → Type 0
NoneWritten p c [] = Unit {0}
NoneWritten p c (e ∷ es) = (e.kind ≡ 2 → (d : ℕ) → ¬ (c.phase ≡ Writing p d)) × NoneWritten p (run c (e ∷ [])) es

-- None of some events puts levels on port p.
abbrev pub NonePut : ℕ → List Event → Type 0
NonePut p [] = Unit {0}
NonePut p (e ∷ es) = ¬ ((e.kind ≡ 5) × (e.first ≡ p)) × NonePut p es

-- Pin n of port p after any events es from a state c. Where a byte d was written to the port before them, on an idle bus, and none of them ends
-- another write to it, the pin shows the byte's bit wherever it is an output: resets, other directions, levels, reads and refused events leave
-- the byte. Where levels v came onto the port before them, whatever ran on the bus, and no others come, it shows theirs wherever it is an input.
pub record Lasts (c : Chip8355) (p n : ℕ) (es : List Event) : Type 0 where
  pub written : (d : ℕ) → c.phase ≡ Idle → NoneWritten p (run c (write p d)) es → drives (run c (write p d ++ es)) p n ≡ true
      → level (run c (write p d ++ es)) p n ≡ bit_of d n
  pub put : (v : ℕ) → NonePut p es → drives (run c (levels p v ++ es)) p n ≡ false → level (run c (levels p v ++ es)) p n ≡ bit_of v n
