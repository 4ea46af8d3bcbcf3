-- What the account has after a history beside what the chip then holds, and what the account makes of a write to port A or B ("State", "Writes and
-- bit set/reset").
use Rattle.std.specs.Prelude.{◌≡◌, true, false, List, ℕ, ◌<◌}
use Rattle.bus.specs.Event.{Event, event}
use Rattle.bus.specs.declared.Phase.TheVariants.{Writing}
use Rattle.control.specs.declared.Group.{Group}
use Rattle.chip.specs.declared.channel.Side.{Side}
use Rattle.chip.specs.declared.channel.Side.TheVariants.{Input, Output}
use Rattle.chip.specs.declared.Chip.{Chip}
use Rattle.chip.specs.declared.Edition.{Edition}
use Rattle.chip.specs.declared.Levels.{Levels}
use Rattle.chip.specs.State.{power_up_as, channel_of}
use Rattle.laws.specs.Forcing.{is_fetching}
use Rattle.laws.specs.PlainBits.{input_only}
use Rattle.fates.specs.Numbers.{own_port}
use Rattle.fates.specs.Promise.{run}
use Rattle.account.specs.Account.{Account, opened, account_next}
use Rattle.account.specs.Promise.{over, surroundings_here, flag_here, asks_here, account_of}

-- After the events es from the chip c, where a is the account of their beginning, the account has of all things what the chip holds: the
-- surroundings, the bit at each pin, both latches of ports A and B, IBF, OBF, whether a read has been given the byte, and the halves of INTR.
pub record HoldsTrue (c : Chip) (a : Account) (es : List Event) : Type 0 where
  pub surroundings : (over a es).surroundings ≡ surroundings_here (run c es)
  pub bit : (n : ℕ) → n < 8 → (over a es).bit n ≡ (account_of (run c es)).bit n
  pub output : (g : Group) → (over a es).output g ≡ (channel_of (run c es).core g Output).latch
  pub input : (g : Group) → (over a es).input g ≡ (channel_of (run c es).core g Input).latch
  pub ibf : (g : Group) → (over a es).ibf g ≡ flag_here (run c es).core g Input
  pub obf : (g : Group) → (over a es).obf g ≡ flag_here (run c es).core g Output
  pub given : (g : Group) → (over a es).given g ≡ is_fetching (channel_of (run c es).core g Input).fill
  pub asks : (g : Group) (s : Side) → (over a es).asks g s ≡ asks_here (run c es) g s

-- So from a power-up, with the account that is opened there.
abbrev pub HoldsFromPowerUp : Edition → Levels → List Event → Type 0
HoldsFromPowerUp ed l es = HoldsTrue (power_up_as ed l) (opened ed l) es

-- By the account a write of b to a group's port runs: A is at 0, and B at 1.
abbrev pub WriteRuns : Account → Group → ℕ → Type 0
WriteRuns a g b = a.surroundings.phase ≡ Writing (own_port g) b

-- That write ends, by plain bits of the mode word. If the port is an input of mode 0 or 1 its output latch is as before, and that of any other port
-- has the byte. The input latch is as before.
pub record PortTakes (a : Account) (g : Group) (b x d : ℕ) : Type 0 where
  pub to_input : input_only a.surroundings.word g ≡ true → (account_next a (event 2 x d)).output g ≡ a.output g
  pub to_output : input_only a.surroundings.word g ≡ false → (account_next a (event 2 x d)).output g ≡ b
  pub other_latch : (account_next a (event 2 x d)).input g ≡ a.input g
