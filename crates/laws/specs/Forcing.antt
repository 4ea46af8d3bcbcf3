-- What a flag that is forced shows and counts, by its pin, the tallies and the latch; of the condition it asks only whether a byte is fetched
-- ("Writes and bit set/reset", "Forcing the flags").
use Rattle.std.specs.Prelude.{◌≡◌, Bool, true, false, not, ◌&&◌, ◌||◌}
use Rattle.control.specs.declared.Group.{Group}
use Rattle.chip.specs.declared.channel.Side.{Side}
use Rattle.chip.specs.declared.channel.Side.TheVariants.{Input, Output}
use Rattle.chip.specs.declared.channel.Fill.{Fill}
use Rattle.chip.specs.declared.channel.Fill.TheVariants.{Empty, Waiting, Fetching}
use Rattle.chip.specs.declared.channel.Tally.{Tally}
use Rattle.chip.specs.Channel.{counted, planted, struck}
use Rattle.chip.specs.declared.Chip.{Chip}
use Rattle.chip.specs.State.{channel_of, tally_of}
use Rattle.chip.specs.Handshakes.{flag_pin}
use Rattle.laws.specs.Seen.{pin}

-- The channel is fetching: a read was given its byte.
abbrev pub is_fetching : Fill → Bool
is_fetching Empty = false
is_fetching Waiting = false
is_fetching Fetching = true

-- The level of a flag once it is forced to v: that level, but for IBF while a byte is fetched, which is high until the read ends.
abbrev pub forced_level : Side → Bool → Fill → Bool
forced_level Input v f = v || is_fetching f
forced_level Output v f = v

-- The level of a flag says that a byte is there: IBF high, OBF low.
abbrev pub says_a_byte : Side → Bool → Bool
says_a_byte Input level = level
says_a_byte Output level = not level

-- What is counted where a flag is forced and goes from one level to another: a byte planted where it begins to say that one is there, a byte
-- struck where it ceases to.
abbrev pub counted_by_flag : Side → Bool → Bool → Tally → Tally
counted_by_flag s from to t =
    counted planted (says_a_byte s to && not (says_a_byte s from)) (counted struck (says_a_byte s from && not (says_a_byte s to)) t)

-- The flag of a channel is forced to v in the chip c, which leaves c'.
pub record Forced (c c' : Chip) (g : Group) (s : Side) (v : Bool) : Type 0 where
  pub shows : pin c' (flag_pin g s) ≡ forced_level s v (channel_of c.core g s).fill
  pub counts : tally_of c' g s ≡ counted_by_flag s (pin c (flag_pin g s)) (pin c' (flag_pin g s)) (tally_of c g s)
  pub latch : (channel_of c'.core g s).latch ≡ (channel_of c.core g s).latch
