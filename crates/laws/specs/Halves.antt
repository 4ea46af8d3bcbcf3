-- The two halves of a group's INTR, the input's and the output's: what each is by the pins, and what cycles make of them ("Handshake").
use Rattle.std.specs.Prelude.{◌≡◌, Bool, true, false, not, ◌&&◌, ◌||◌, ℕ}
use Rattle.bus.specs.Kinds as kinds
use Rattle.bus.specs.declared.Phase.{Phase}
use Rattle.bus.specs.declared.Phase.TheVariants.{Idle, Reading, Writing}
use Rattle.control.specs.declared.Group.{Group}
use Rattle.control.specs.declared.Group.TheVariants.{A}
use Rattle.chip.specs.declared.channel.Side.{Side}
use Rattle.chip.specs.declared.channel.Side.TheVariants.{Input, Output}
use Rattle.chip.specs.declared.Chip.{Chip}
use Rattle.chip.specs.Handshakes.{line_pin, enable_of, own_address, running, flag_pin}
use Rattle.chip.specs.Status.{request_of, intr_of}
use Rattle.chip.specs.Step.{step_of}
use Rattle.laws.specs.Seen.{pin, intr_pin, commands}

-- One half of INTR, told by the pins: INTE and the flag and the line high and no own cycle running.
abbrev pub half : Chip → Group → Side → Bool
half c g s = enable_of c.core.inte g s && pin c (flag_pin g s) && pin c (line_pin g s) && not (running c.phase g s)

abbrev pub other : Side → Side
other Input = Output
other Output = Input

-- In mode 1 a group has one half, of the side s, and the pin of INTR is that half; it is low while that side's own cycle runs.
pub record IntrInMode1 (c : Chip) (g : Group) (s : Side) : Type 0 where
  pub shown : pin c (intr_pin g) ≡ half c g s
  pub own_cycle : running c.phase g s ≡ true → pin c (intr_pin g) ≡ false

-- In mode 2 the pin of INTR is high for either half of group A. While the own cycle of one side runs it is the other's half.
pub record IntrInMode2 (c : Chip) : Type 0 where
  pub shown : pin c 3 ≡ (half c A Input || half c A Output)
  pub own_cycle : (s : Side) → running c.phase A s ≡ true → pin c 3 ≡ half c A (other s)

-- A cycle spares a half: it is neither a read of the port, for the input's, nor a write to it, for the output's.
abbrev pub spares : Phase → Group → Side → Bool
spares Idle g s = true
spares (Reading p) g Input = not (own_address p g)
spares (Reading p) g Output = true
spares (Writing a d) g Input = true
spares (Writing a d) g Output = not (own_address a g)

-- A cycle that begins drops the half that it does not spare, and leaves the other; one that ends leaves those that it spared, unless it was a
-- write to control.
pub record HalfAfter (c : Chip) (g : Group) (s : Side) (x d : ℕ) : Type 0 where
  pub read_begins : (step_of c kinds.begin_read x d).number ≡ 0
      → request_of (step_of c kinds.begin_read x d).state g s ≡ (spares (Reading x) g s && request_of c g s)
  pub write_begins : (step_of c kinds.begin_write x d).number ≡ 0
      → request_of (step_of c kinds.begin_write x d).state g s ≡ (spares (Writing x d) g s && request_of c g s)
  pub cycle_ends : spares c.phase g s ≡ true → commands c.phase ≡ false
      → request_of (step_of c kinds.end_cycle x d).state g s ≡ request_of c g s

-- So a cycle at another place than the group's port leaves INTR, as it begins and, unless it was a write to control, as it ends.
pub record IntrAfter (c : Chip) (g : Group) (x d : ℕ) : Type 0 where
  pub read_begins : own_address x g ≡ false → intr_of (step_of c kinds.begin_read x d).state g ≡ intr_of c g
  pub write_begins : own_address x g ≡ false → intr_of (step_of c kinds.begin_write x d).state g ≡ intr_of c g
  pub cycle_ends : ((s : Side) → spares c.phase g s ≡ true) → commands c.phase ≡ false
      → intr_of (step_of c kinds.end_cycle x d).state g ≡ intr_of c g
