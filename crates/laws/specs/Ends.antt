-- The one end of every cycle: what it frees and what it leaves, also in states that no history reaches ("Events and numbers").
use Rattle.std.specs.Prelude.{◌≡◌, Bool, false, ℕ, ◌<◌}
use Rattle.bus.specs.declared.Phase.TheVariants.{Idle, Reading, Writing}
use Rattle.control.specs.declared.Group.{Group}
use Rattle.chip.specs.declared.channel.Side.TheVariants.{Input, Output}
use Rattle.chip.specs.declared.Chip.{Chip}
use Rattle.chip.specs.State.{channel_of}
use Rattle.chip.specs.Handshakes.{flag_pin}
use Rattle.chip.specs.Step.{on_bus, accepted, step_of}
use Rattle.laws.specs.Seen.{makes_anew, puts}
use Rattle.laws.specs.Anew.{Freed}

-- The end of a cycle, whatever its operands. It is accepted while any cycle runs. A read that ends leaves every output as it was. A write that
-- ends leaves every input as it was, but for a mode word, and for bit set/reset that puts the input's flag.
pub record CycleEnds (c : Chip) (x d : ℕ) : Type 0 where
  pub freed : ¬ (c.phase ≡ Idle) → Freed (step_of c 2 x d)
  pub read_spares : (p : ℕ) → c.phase ≡ Reading p → (g : Group) → channel_of (step_of c 2 x d).state.core g Output ≡ channel_of c.core g Output
  pub write_spares : (a b : ℕ) (g : Group) → c.phase ≡ Writing a b → makes_anew (Writing a b) ≡ false
      → ((v : Bool) → puts (Writing a b) (flag_pin g Input) v ≡ false)
      → channel_of (step_of c 2 x d).state.core g Input ≡ channel_of c.core g Input

-- The end of a cycle at a place that there is not, an address above 3, frees the bus and has no other effect. So it is with the end of a
-- read of port C or of control, at 2 and 3.
pub record EndsNowhere (c : Chip) (x d : ℕ) : Type 0 where
  pub read : (p : ℕ) → c.phase ≡ Reading p → 1 < p → step_of c 2 x d ≡ accepted (on_bus Idle c.edition c.core) 0
  pub write : (a b : ℕ) → c.phase ≡ Writing a b → 3 < a → step_of c 2 x d ≡ accepted (on_bus Idle c.edition c.core) 0
