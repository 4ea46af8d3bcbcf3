-- One strobed channel: what its condition shows, and how its tallies count ("State", "Handshake").
use Rattle.std.specs.Prelude.{ℕ, ◌+◌, ◌%◌, Bool, true, false, not, ◌&&◌, ◌==◌}
use Rattle.chip.specs.declared.channel.Side.{Side}
use Rattle.chip.specs.declared.channel.Side.TheVariants.{Input, Output}
use Rattle.chip.specs.declared.channel.Fill.{Fill}
use Rattle.chip.specs.declared.channel.Fill.TheVariants.{Empty, Waiting, Fetching}
use Rattle.chip.specs.declared.channel.Tally.{Tally}

-- A byte waits in the channel ("State").
abbrev pub is_waiting : Fill → Bool
is_waiting Empty = false
is_waiting Waiting = true
is_waiting Fetching = false

-- There is none, and none is being fetched.
abbrev pub is_empty : Fill → Bool
is_empty Empty = true
is_empty Waiting = false
is_empty Fetching = false

-- The flag that a channel shows. An input's, IBF, says that a byte is there or still being fetched; an output's, OBF, that none
-- is there to be taken. An output marked fetching, as no history marks one, holds none.
unfoldable pub flag_of : Side → Fill → Bool
flag_of Input fill = not (is_empty fill)
flag_of Output fill = not (is_waiting fill)

-- There is room for a byte to be planted: an input has it while it is empty, and an output while none waits. So an output marked fetching,
-- as no history marks one, counts as empty ("Events and numbers").
unfoldable pub has_room : Side → Fill → Bool
has_room Input fill = is_empty fill
has_room Output fill = not (is_waiting fill)

-- A tally counts where the condition holds, and after 65,535 begins again at 0.
abbrev pub next : Bool → ℕ → ℕ
next true n = (n + 1) % 65536
next false n = n

-- The seven tallies of a channel.
pub data Counter : Type 0 where
  offered handed overwritten swallowed cleared planted struck : Counter

-- Their places among the tallies.
abbrev pub place : Counter → ℕ
place offered = 0
place handed = 1
place overwritten = 2
place swallowed = 3
place cleared = 4
place planted = 5
place struck = 6

-- The tallies with counter k gone on where the condition holds.
abbrev pub counted : Counter → Bool → Tally → Tally
counted k on t = record {
  offered = next (place k == 0 && on) t.offered;
  handed = next (place k == 1 && on) t.handed;
  overwritten = next (place k == 2 && on) t.overwritten;
  swallowed = next (place k == 3 && on) t.swallowed;
  cleared = next (place k == 4 && on) t.cleared;
  planted = next (place k == 5 && on) t.planted;
  struck = next (place k == 6 && on) t.struck;
}
