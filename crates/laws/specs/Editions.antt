-- The two editions of the chip side by side, and what a read of control is in each ("The 82C55A").
use Rattle.std.specs.Prelude.{◌≡◌, Bool, true, ◌&&◌, ℕ, ◌<◌, eqb}
use Rattle.bits.specs.Bit.{bit_of}
use Rattle.bus.specs.declared.Phase.TheVariants.{Idle, Reading}
use Rattle.control.specs.declared.Group.{Group}
use Rattle.bus.specs.Device.{Given}
use Rattle.chip.specs.declared.channel.Side.{Side}
use Rattle.chip.specs.declared.Edition.{Edition}
use Rattle.chip.specs.declared.Edition.TheVariants.{Older, Newer}
use Rattle.chip.specs.declared.Chip.{Chip}
use Rattle.chip.specs.State.{tally_of}
use Rattle.chip.specs.Reasons.{explained_of}
use Rattle.chip.specs.Reads.{read_of}
use Rattle.chip.specs.Pins.{pins_of}
use Rattle.chip.specs.Step.{on_bus, accepted, refused, step_of}

-- How many addresses a program can read: A, B and C, and of the newer edition control.
abbrev pub addresses_read : Edition → ℕ
addresses_read Older = 3
addresses_read Newer = 4

-- The same chip in another edition.
abbrev pub as_edition : Edition → Chip → Chip
as_edition ed c = record { phase = c.phase; edition = ed; core = c.core }

-- What a step gives, with the chip so.
abbrev pub given_as : Edition → Given Chip → Given Chip
given_as ed s = record { state = as_edition ed s.state; number = s.number; byte = s.byte }

-- An event of kind k with the first operand x begins a read of control.
abbrev pub reads_control : ℕ → ℕ → Bool
reads_control k x = eqb k 1 && eqb x 3

-- Two chips show the same: their pins, what reads of their ports would answer, their tallies, and why their interrupts are quiet.
pub record ShowsAlike (c c' : Chip) : Type 0 where
  pub pins : (p : ℕ) → pins_of c p ≡ pins_of c' p
  pub reads : (p : ℕ) → p < 3 → read_of c p ≡ read_of c' p
  pub tallies : (g : Group) (s : Side) → tally_of c g s ≡ tally_of c' g s
  pub explained : (g : ℕ) → explained_of c g ≡ explained_of c' g

-- A byte is the mode word w with bit 7 set.
pub record ReadBack (byte w : ℕ) : Type 0 where
  pub mode_bit : bit_of byte 7 ≡ true
  pub others : (n : ℕ) → n < 7 → bit_of byte n ≡ bit_of w n

-- A read of control, by the edition: the older refuses it with 3, whatever the bus does. The newer refuses it with 4 while a cycle runs; on an
-- idle bus it begins, with the mode word read back, and nothing but the bus has changed. In either it shows nowhere.
pub record ControlRead (c : Chip) (d : ℕ) : Type 0 where
  pub older : c.edition ≡ Older → step_of c 1 3 d ≡ refused c 3
  pub in_cycle : c.edition ≡ Newer → ¬ (c.phase ≡ Idle) → step_of c 1 3 d ≡ refused c 4
  pub begins : c.edition ≡ Newer → c.phase ≡ Idle → (step_of c 1 3 d).number ≡ 0
  pub answers : (step_of c 1 3 d).number ≡ 0 → ReadBack (step_of c 1 3 d).byte c.core.word
  pub bus_alone : (step_of c 1 3 d).number ≡ 0 → (step_of c 1 3 d).state ≡ on_bus (Reading 3) c.edition c.core
  pub shows : ShowsAlike (step_of c 1 3 d).state c

-- Its end frees the bus and has no other effect.
pub record ControlReadEnds (c : Chip) (x d : ℕ) : Type 0 where
  pub bus_alone : step_of c 2 x d ≡ accepted (on_bus Idle c.edition c.core) 0
  pub shows : ShowsAlike (step_of c 2 x d).state c
