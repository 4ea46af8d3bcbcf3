-- What a mode word and a reset make of the chip ("State", "Mode words").
use Rattle.std.specs.Prelude.{◌≡◌, false, ℕ, ◌<◌}
use Rattle.bus.specs.declared.Phase.TheVariants.{Idle}
use Rattle.control.specs.declared.Group.{Group}
use Rattle.control.specs.Role.{input, role_of}
use Rattle.bus.specs.Device.{Given}
use Rattle.chip.specs.declared.channel.Side.{Side}
use Rattle.chip.specs.declared.channel.Fill.TheVariants.{Empty}
use Rattle.chip.specs.Channel.{is_waiting, counted, cleared}
use Rattle.chip.specs.declared.Core.{Core}
use Rattle.chip.specs.declared.Chip.{Chip}
use Rattle.chip.specs.State.{port_of, channel_of}
use Rattle.chip.specs.Handshakes.{enable_of}
use Rattle.chip.specs.Reads.{read_port}
use Rattle.chip.specs.Pins.{pins_of}

-- An event is accepted, has no byte to give, and leaves the bus idle.
pub record Freed (r : Given Chip) : Type 0 where
  pub taken : r.number ≡ 0
  pub silent : r.byte ≡ 0
  pub idle : r.state.phase ≡ Idle

-- What a chip made anew is, beside the one that it was.
pub record Anew (before : Core) (w : ℕ) (after : Core) : Type 0 where
  pub word : after.word ≡ w
  pub empty : (g : Group) (s : Side) → (channel_of after g s).fill ≡ Empty
  pub latches : (g : Group) (s : Side) → (channel_of after g s).latch ≡ 0
  pub lines : after.c.latch ≡ 0
  pub enables : (g : Group) (s : Side) → enable_of after.inte g s ≡ false
  pub tallies : (g : Group) (s : Side)
      → (channel_of after g s).tally ≡ counted cleared (is_waiting (channel_of before g s).fill) (channel_of before g s).tally
  pub levels : (g : Group) → (port_of after g).outside ≡ (port_of before g).outside
  pub lines_levels : after.c.outside ≡ before.c.outside

-- A mode word or a reset, which is the word 9B, obeyed.
pub record Obeyed (c : Chip) (w : ℕ) (r : Given Chip) : Type 0 where
  pub bus : Freed r
  pub core : Anew c.core w r.state.core

-- What a reset leaves: under the word 9B every pin of port C is an input, no pin of any port is driven, and ports A and B read as the levels
-- that stood outside.
pub record AllInputs (before after : Chip) : Type 0 where
  pub roles : (n : ℕ) → n < 8 → role_of 0x9b n ≡ input
  pub driven : (p : ℕ) → (pins_of after p).driven ≡ 0
  pub reads : (g : Group) → read_port 0x9b g (port_of after.core g) ≡ (port_of before.core g).outside
