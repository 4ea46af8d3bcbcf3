-- The discipline under which no input byte is lost: STB falls only at times when IBF is low, and reads of the port begin only at times
-- when it is high. And histories in which no program forces a flag.
use Rattle.std.specs.Prelude.{◌≡◌, Bool, true, false, ◌&&◌, List, [], ◌∷◌}
use Rattle.bus.specs.Event.{Event}
use Rattle.control.specs.declared.Group.{Group}
use Rattle.chip.specs.declared.channel.Side.{Side}
use Rattle.chip.specs.declared.channel.Side.TheVariants.{Input}
use Rattle.chip.specs.declared.channel.Fill.TheVariants.{Fetching}
use Rattle.chip.specs.declared.Chip.{Chip}
use Rattle.chip.specs.State.{channel_of}
use Rattle.chip.specs.Handshakes.{flag_pin}
use Rattle.chip.specs.Step.{stepped}
use Rattle.laws.specs.Seen.{pin}
use Rattle.fates.specs.Surroundings.{Surroundings, surroundings_next}
use Rattle.fates.specs.Effects.{Effect, offered, followed, taken, ended, cleared_away, forced_full, forced_empty, nothing, strobes, read_runs, effect}
use Rattle.fates.specs.Promise.{surroundings_of}
use Rattle.fates.specs.Bytes.{Byte, overwritten, swallowed, struck, planted_among, count}

-- IBF as the pin view shows it.
abbrev pub ibf : Chip → Group → Bool
ibf c g = pin c (flag_pin g Input)

-- A read of the port runs while STB brings bytes into it.
abbrev pub strobed_read_runs : Group → Surroundings → Bool
strobed_read_runs g a = strobes a.word g Input && read_runs g a.phase

-- The condition at the start: such a read, if one runs, has found a byte. At power-up none runs.
abbrev pub HasFound : Group → Chip → Type 0
HasFound g c = strobed_read_runs g (surroundings_of c) ≡ true → (channel_of c.core g Input).fill ≡ Fetching

-- What the level of IBF before an event allows it to be. A read of the port while it is no strobed input, in mode 0 or as an output, is
-- `nothing` to the channel, and so is free. So is a flag that is forced: IBF tells of a byte that is planted as of any other, and no longer of
-- one that is struck.
abbrev pub Minds : Bool → Effect → Type 0
Minds level (offered v) = level ≡ false
Minds level (followed v) = Unit {0}
Minds level taken = level ≡ true
Minds level ended = Unit {0}
Minds level cleared_away = Unit {0}
Minds level forced_full = Unit {0}
Minds level forced_empty = Unit {0}
Minds level nothing = Unit {0}

-- Device and program keep to it throughout a history.
abbrev pub Disciplined : Group → Surroundings → Chip → List Event → Type 0
Disciplined g a c [] = Unit {0}
Disciplined g a c (e ∷ es) = Minds (ibf c g) (effect g Input a e) × Disciplined g (surroundings_next a e) (stepped c e).state es

-- An event does not force the flag of the channel.
abbrev pub Unforced : Effect → Type 0
Unforced (offered v) = Unit {0}
Unforced (followed v) = Unit {0}
Unforced taken = Unit {0}
Unforced ended = Unit {0}
Unforced cleared_away = Unit {0}
Unforced forced_full = ⊥
Unforced forced_empty = ⊥
Unforced nothing = Unit {0}

-- No program forces it throughout a history ("Forcing the flags").
abbrev pub NeverForced : Group → Side → Surroundings → List Event → Type 0
NeverForced g s a [] = Unit {0}
NeverForced g s a (e ∷ es) = Unforced (effect g s a e) × NeverForced g s (surroundings_next a e) es

-- No byte was planted, of those that came since, and none was struck, of all.
pub record NoneForced (new all : List Byte) : Type 0 where
  pub none_planted : planted_among new ≡ 0
  pub none_struck : count struck all ≡ 0

-- No byte was overwritten or swallowed.
pub record NoneLost (bs : List Byte) : Type 0 where
  pub none_overwritten : count overwritten bs ≡ 0
  pub none_swallowed : count swallowed bs ≡ 0
