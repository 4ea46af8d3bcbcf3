-- The seven things that can happen to a channel, and what each leaves of it ("Handshake", "Forcing the flags").
use Rattle.std.specs.Prelude.{ℕ, Bool, true, cond, not}
use Rattle.chip.specs.declared.channel.Side.{Side}
use Rattle.chip.specs.declared.channel.Side.TheVariants.{Input, Output}
use Rattle.chip.specs.declared.channel.Fill.{Fill}
use Rattle.chip.specs.declared.channel.Fill.TheVariants.{Empty, Waiting}
use Rattle.chip.specs.declared.channel.Channel.{Channel}
use Rattle.chip.specs.Channel.{is_waiting, has_room, counted, offered, handed, overwritten, swallowed, cleared, planted, struck}

-- A byte is brought in by STB, or written to be given out. It stands in the latch and waits, and a byte that waited there
-- before is lost under it.
unfoldable pub after_offer : Channel → ℕ → Channel
after_offer ch b = record {
  fill = Waiting;
  latch = b;
  tally = counted overwritten (is_waiting ch.fill) (counted offered true ch.tally);
}

-- While STB is low the latch stands open: what comes onto an input's lines then stands in it at once, and a byte that waits there has that
-- value from then on. None is offered by it, and nothing is counted.
unfoldable pub after_follow : Channel → ℕ → Channel
after_follow ch b = record { fill = ch.fill; latch = b; tally = ch.tally }

-- The byte is taken, by a read that begins or by ACK. What that leaves is for the caller to say: an input is fetched from until
-- the read ends, an output has room again. Where no byte waits, nothing is taken.
unfoldable pub after_hand_over : Channel → Fill → Channel
after_hand_over ch left =
    cond (is_waiting ch.fill)
    (record { fill = left; latch = ch.latch; tally = counted handed true ch.tally })
    ch

-- The end of a read frees the channel whatever came in meanwhile: a byte that waits then is read by nobody.
unfoldable pub after_end_read : Channel → Channel
after_end_read ch = record {
  fill = Empty;
  latch = ch.latch;
  tally = counted swallowed (is_waiting ch.fill) ch.tally;
}

-- A mode word or a reset wipes latch and channel, and a byte that waited is counted for it ("Mode words", "State").
unfoldable pub after_clear : Channel → Channel
after_clear ch = record {
  fill = Empty;
  latch = 0;
  tally = counted cleared (is_waiting ch.fill) ch.tally;
}

-- A program forces the flag so that it tells of a byte: where there is room, a byte is planted. It has the latch's value, and waits as one
-- that was offered does.
unfoldable pub after_plant : Side → Channel → Channel
after_plant s ch =
    cond (has_room s ch.fill)
    (record { fill = Waiting; latch = ch.latch; tally = counted planted true ch.tally })
    ch

-- It forces the flag so that it tells of none: a byte that waits is struck, and the channel is empty. A byte that is being fetched was handed
-- over already.
unfoldable pub after_strike : Channel → Channel
after_strike ch =
    cond (is_waiting ch.fill)
    (record { fill = Empty; latch = ch.latch; tally = counted struck true ch.tally })
    ch

-- IBF tells of a byte while it is high, and OBF while it is low.
abbrev pub tells_of_a_byte : Side → Bool → Bool
tells_of_a_byte Input level = level
tells_of_a_byte Output level = not level

-- The flag forced to a level.
unfoldable pub after_force : Side → Bool → Channel → Channel
after_force s level ch = cond (tells_of_a_byte s level) (after_plant s ch) (after_strike ch)
