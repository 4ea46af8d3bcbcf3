-- What is left of a channel that takes no part in an event, and which events concern a channel ("Events and numbers", "Handshake").
use Rattle.std.specs.Prelude.{◌≡◌, Bool, ◌&&◌, ◌||◌, ℕ, eqb}
use Rattle.bus.specs.Kinds as kinds
use Rattle.bus.specs.declared.Phase.{Phase}
use Rattle.control.specs.declared.Group.{Group}
use Rattle.chip.specs.declared.channel.Side.{Side}
use Rattle.chip.specs.declared.channel.Channel.{Channel}
use Rattle.chip.specs.declared.Chip.{Chip}
use Rattle.chip.specs.State.{channel_of}
use Rattle.chip.specs.Handshakes.{line_pin}
use Rattle.chip.specs.Levels.{fallen}
use Rattle.chip.specs.Step.{step_of}
use Rattle.laws.specs.Seen.{makes_anew}

-- Condition and tallies as they were. The latch may change: levels go through to an input's, and a mode 0 write changes an output's.
pub record Kept (before after : Channel) : Type 0 where
  pub fill : after.fill ≡ before.fill
  pub tally : after.tally ≡ before.tally

-- The same of a channel of a chip, before an event and after it.
abbrev pub Keeps : Chip → Group → Side → Chip → Type 0
Keeps before g s after = Kept (channel_of before.core g s) (channel_of after.core g s)

-- Levels d on port x leave a channel's condition and tallies.
abbrev pub KeptByLevels : Chip → Group → Side → ℕ → ℕ → Type 0
KeptByLevels c g s x d = Keeps c g s (step_of c 5 x d).state

-- An event of kind k leaves them.
abbrev pub KeptByEvent : Chip → Group → Side → ℕ → ℕ → ℕ → Type 0
KeptByEvent c g s k x d = Keeps c g s (step_of c k x d).state

-- Levels d on port x lower the line of a channel, STB or ACK: they come onto port C, and this line was high outside and is low in them.
abbrev pub lets_fall : Chip → Group → Side → ℕ → ℕ → Bool
lets_fall c g s x d = eqb x 2 && fallen c.core.c.outside d (line_pin g s)

-- An event of kind k reaches also a channel without a handshake: it is a reset, or the end of a mode word's write.
abbrev pub reaches_all : Phase → ℕ → Bool
reaches_all ph k = eqb k kinds.reset || (eqb k kinds.end_cycle && makes_anew ph)
