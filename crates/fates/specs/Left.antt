-- What the effects leave in a channel, one after the other: its condition, and what its latch holds ("State", "Handshake", "Forcing the flags").
-- A byte that is planted needs both: it comes where there is room, with the latch's value.
use Rattle.std.specs.Prelude.{Bool, true, false, ℕ}
use Rattle.chip.specs.declared.channel.Side.{Side}
use Rattle.chip.specs.declared.channel.Side.TheVariants.{Input, Output}
use Rattle.chip.specs.declared.channel.Fill.{Fill}
use Rattle.chip.specs.declared.channel.Fill.TheVariants.{Empty, Waiting, Fetching}
use Rattle.fates.specs.Effects.{Effect, offered, followed, taken, ended, cleared_away, forced_full, forced_empty, nothing}

-- The condition and the latch's value.
pub record Left : Type 0 where
  pub fill : Fill
  pub latch : ℕ

-- It, in that order.
abbrev pub left : Fill → ℕ → Left
left f l = record { fill = f; latch = l }

-- A byte that is taken from an input is fetched until the read ends; one taken from an output is gone. Where none waits nothing changes.
abbrev pub after_taken : Side → Fill → Fill
after_taken s Empty = Empty
after_taken Input Waiting = Fetching
after_taken Output Waiting = Empty
after_taken s Fetching = Fetching

-- There is room for a byte in an empty channel. An output is not fetched from: one that is so marked counts as empty ("Events and numbers").
abbrev pub room_in : Side → Fill → Bool
room_in s Empty = true
room_in s Waiting = false
room_in Input Fetching = false
room_in Output Fetching = true

-- Where there is room, a byte that is planted waits from then on.
abbrev pub after_forced_full : Side → Fill → Fill
after_forced_full s Empty = Waiting
after_forced_full s Waiting = Waiting
after_forced_full Input Fetching = Fetching
after_forced_full Output Fetching = Waiting

-- A byte that waits is struck; one that is being fetched is not.
abbrev pub after_forced_empty : Fill → Fill
after_forced_empty Empty = Empty
after_forced_empty Waiting = Empty
after_forced_empty Fetching = Fetching

-- The condition after an effect.
abbrev pub fill_left : Side → Fill → Effect → Fill
fill_left s f (offered v) = Waiting
fill_left s f (followed v) = f
fill_left s f taken = after_taken s f
fill_left s f ended = Empty
fill_left s f cleared_away = Empty
fill_left s f forced_full = after_forced_full s f
fill_left s f forced_empty = after_forced_empty f
fill_left s f nothing = f

-- The latch after it: the byte that was offered, or the levels that came while STB was low; 00 where all is cleared.
abbrev pub latch_left : ℕ → Effect → ℕ
latch_left l (offered v) = v
latch_left l (followed v) = v
latch_left l taken = l
latch_left l ended = l
latch_left l cleared_away = 0
latch_left l forced_full = l
latch_left l forced_empty = l
latch_left l nothing = l

-- Both.
abbrev pub left_after : Side → Left → Effect → Left
left_after s h d = left (fill_left s h.fill d) (latch_left h.latch d)
