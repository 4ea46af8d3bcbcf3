-- What an event does to a channel of the chip, by what the event is to it in the history's words ("Handshake", "Forcing the flags").
use Rattle.std.specs.Prelude.{◌≡◌, Bool, true, ◌&&◌, ◌||◌}
use Rattle.bus.specs.Event.{Event}
use Rattle.control.specs.declared.Group.{Group}
use Rattle.chip.specs.declared.channel.Side.{Side}
use Rattle.chip.specs.declared.channel.Side.TheVariants.{Input, Output}
use Rattle.chip.specs.declared.channel.Fill.{Fill}
use Rattle.chip.specs.declared.channel.Fill.TheVariants.{Empty, Fetching}
use Rattle.chip.specs.declared.channel.Channel.{Channel}
use Rattle.chip.specs.Moves.{after_offer, after_follow, after_hand_over, after_end_read, after_clear, after_plant, after_strike}
use Rattle.chip.specs.declared.Chip.{Chip}
use Rattle.chip.specs.State.{channel_of}
use Rattle.chip.specs.Step.{stepped}
use Rattle.fates.specs.Kinds.{kind_of, accepts}
use Rattle.fates.specs.Surroundings.{Surroundings}
use Rattle.fates.specs.Effects.{Effect, offered, followed, taken, ended, cleared_away, forced_full, forced_empty, nothing, clears, effect}
use Rattle.fates.specs.Promise.{surroundings_of, handshake_alone}

-- What a channel is left in when its byte is taken: an input's is fetched until the read ends.
abbrev pub emptied : Side → Fill
emptied Input = Fetching
emptied Output = Empty

-- The channel after an effect, by the channel's own moves.
abbrev pub moved : Side → Channel → Effect → Channel
moved s ch (offered v) = after_offer ch v
moved s ch (followed v) = after_follow ch v
moved s ch taken = after_hand_over ch (emptied s)
moved s ch ended = after_end_read ch
moved s ch cleared_away = after_clear ch
moved s ch forced_full = after_plant s ch
moved s ch forced_empty = after_strike ch
moved s ch nothing = ch

-- An event is accepted and clears every channel.
abbrev pub clears_now : Surroundings → Event → Bool
clears_now a e = accepts a.edition a.phase (kind_of e) && clears a.phase (kind_of e)

-- The history tells what the latch holds after an event: the handshake alone fills it, or the event clears it.
abbrev pub latch_told : Group → Side → Chip → Event → Bool
latch_told g s c e = handshake_alone c.core.word g s || clears_now (surroundings_of c) e

-- The event moves the channel as the history says: its condition and its tallies always, and its latch where the history tells it. The latch of
-- an output without a handshake is filled by a plain write too.
pub record Follows (g : Group) (s : Side) (c : Chip) (e : Event) : Type 0 where
  pub fill : (channel_of (stepped c e).state.core g s).fill ≡ (moved s (channel_of c.core g s) (effect g s (surroundings_of c) e)).fill
  pub tally : (channel_of (stepped c e).state.core g s).tally ≡ (moved s (channel_of c.core g s) (effect g s (surroundings_of c) e)).tally
  pub latch : latch_told g s c e ≡ true
      → (channel_of (stepped c e).state.core g s).latch ≡ (moved s (channel_of c.core g s) (effect g s (surroundings_of c) e)).latch
