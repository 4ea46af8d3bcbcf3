-- The document's own sentences about the 8355's ports, of a pin as it is seen: by its level, by whether the device drives it, and by reads
-- ("The 8355 ports").
use Rattle.std.specs.Prelude.{◌≡◌, Bool, true, false, List, [], ◌∷◌, ◌++◌, ℕ, ◌+◌}
use Rattle.bits.specs.Bit.{bit_of}
use Rattle.bus.specs.Event.{Event, event}
use Rattle.bus.specs.Histories.{write, levels}
use Rattle.bus.specs.declared.Phase.TheVariants.{Writing}
use Rattle.i8355.specs.declared.Chip8355.{Chip8355}
use Rattle.i8355.specs.Views.{pins_of}
use Rattle.i8355.specs.Step.{step_of}
use Rattle.laws8355.specs.Promise.{run}

-- The level of pin n of port p, and whether the device drives it.
abbrev pub level : Chip8355 → ℕ → ℕ → Bool
level c p n = bit_of (pins_of c p).levels n

abbrev pub drives : Chip8355 → ℕ → ℕ → Bool
drives c p n = bit_of (pins_of c p).driven n

-- The address of a port's direction register, two above the port's own.
abbrev pub direction_of : ℕ → ℕ
direction_of p = p + 2

-- A reset.
abbrev pub reset : List Event
reset = event 0 0 0 ∷ []

-- No write runs to port p, nor to its direction register.
abbrev pub NoWriteRuns : Chip8355 → ℕ → Type 0
NoWriteRuns c p = (d : ℕ) → ¬ (c.phase ≡ Writing p d) × ¬ (c.phase ≡ Writing (direction_of p) d)

-- Whole writes, from a state c with an idle bus, and what pin n of port p then does.
pub record Written (c : Chip8355) (p n : ℕ) : Type 0 where
  -- A one in the direction register makes the pin an output, and a zero an input.
  pub turns : (m : ℕ) → drives (run c (write (direction_of p) m)) p n ≡ bit_of m n
  -- All bits of a port that is written are affected, whatever their direction m is: an output shows the byte's bit at once, and any pin where it
  -- is made an output later.
  pub at_once : (m d : ℕ) → bit_of m n ≡ true → level (run c (write (direction_of p) m ++ write p d)) p n ≡ bit_of d n
  pub affected : (m d m' : ℕ) → bit_of m' n ≡ true → level (run c (write (direction_of p) m ++ write p d ++ write (direction_of p) m')) p n ≡ bit_of d n
  -- A zero in the direction register keeps the latch's byte d from the pin, which shows what is outside.
  pub kept_back : (d m v : ℕ) → bit_of m n ≡ false → level (run c (write p d ++ write (direction_of p) m ++ levels p v)) p n ≡ bit_of v n
  -- The byte written before shows once the bit is set.
  pub shown_then : (d m m' : ℕ) → bit_of m n ≡ false → bit_of m' n ≡ true
      → level (run c (write p d ++ write (direction_of p) m ++ write (direction_of p) m')) p n ≡ bit_of d n
  -- A reset in between keeps the latch and the levels outside: whatever direction m comes after it, the pin shows what it would have shown
  -- without it.
  pub reset_keeps : (m : ℕ) → level (run c (reset ++ write (direction_of p) m)) p n ≡ level (run c (write (direction_of p) m)) p n

-- What is so in every state c, whatever runs on the bus.
pub record InEveryState (c : Chip8355) (p n : ℕ) : Type 0 where
  -- Input bits and output bits are read: a read that is accepted answers what the pins of the port show.
  pub both_read : (d : ℕ) → (step_of c 1 p d).number ≡ 0 → (step_of c 1 p d).byte ≡ (pins_of c p).levels
  -- The pins of a port do not move until a write ends: only the end of a write to it or to its direction register moves them, a reset, and levels on
  -- the port. What is done to the other port leaves them.
  pub held : (e : Event) → ¬ (e.kind ≡ 0) → ¬ ((e.kind ≡ 5) × (e.first ≡ p)) → (e.kind ≡ 2 → NoWriteRuns c p) → pins_of (run c (e ∷ [])) p ≡ pins_of c p
  -- The direction registers cannot be read: 3, with 00, and nothing changes.
  pub unreadable : (d : ℕ) → step_of c 1 (direction_of p) d ≡ record { state = c; number = 3; byte = 0 }
  -- A reset puts every pin into input mode: none is driven, and each shows what comes from outside.
  pub reset_turns_in : drives (run c reset) p n ≡ false
  pub reset_shows : (v : ℕ) → level (run c (reset ++ levels p v)) p n ≡ bit_of v n
  -- It keeps the levels outside of a pin that was an input, and the bit behind one that was an output, which shows again once it is one.
  pub reset_keeps_lines : drives c p n ≡ false → level (run c reset) p n ≡ level c p n
  pub reset_keeps_latch : (m : ℕ) → drives c p n ≡ true → bit_of m n ≡ true → level (run c (reset ++ write (direction_of p) m)) p n ≡ level c p n
