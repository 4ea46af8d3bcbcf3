-- What is promised of the chip, its tallies, its answers and its pins, by the bytes of each channel over a history.
use Rattle.std.specs.Prelude.{◌≡◌, Bool, true, List, [], ◌∷◌, ◌++◌, ℕ, zero, suc, ◌+◌, ◌%◌, ◌<◌, ◌≤◌, length}
use Rattle.bits.specs.Bit.{num}
use Rattle.bus.specs.Event.{Event}
use Rattle.control.specs.declared.Group.{Group}
use Rattle.chip.specs.declared.channel.Side.{Side}
use Rattle.chip.specs.declared.channel.Side.TheVariants.{Input, Output}
use Rattle.chip.specs.declared.channel.Fill.{Fill}
use Rattle.chip.specs.declared.channel.Fill.TheVariants.{Empty, Waiting, Fetching}
use Rattle.chip.specs.declared.channel.Tally.{Tally}
use Rattle.chip.specs.Channel.{is_waiting}
use Rattle.chip.specs.declared.Edition.{Edition}
use Rattle.chip.specs.declared.Levels.{Levels}
use Rattle.chip.specs.declared.Chip.{Chip}
use Rattle.chip.specs.State.{no_tally, power_up_as, channel_of, tally_of}
use Rattle.chip.specs.Pins.{pins_of}
use Rattle.chip.specs.Step.{stepped}
use Rattle.fates.specs.Surroundings.{Surroundings}
use Rattle.fates.specs.Effects.{Effect, port_number, strobes, effects}
use Rattle.fates.specs.Left.{Left, left}
use Rattle.fates.specs.Bytes.{handed_over, overwritten, swallowed, cleared, struck, waiting, Byte, Offer, offered_at, with_fate, bytes, bytes_of, planted_among, offered_among, count}

-- The chip after a history: each event meets the chip that the one before it left.
abbrev pub run : Chip → List Event → Chip
run c [] = c
run c (e ∷ es) = run (stepped c e).state es

-- The tallies that it has then for a channel.
abbrev pub tallies : Group → Side → Chip → List Event → Tally
tallies g s c es = tally_of (run c es) g s

-- A chip's bus phase, edition, mode word and outside levels, where a history begins from that chip.
abbrev pub surroundings_of : Chip → Surroundings
surroundings_of c = record {
  phase = c.phase;
  edition = c.edition;
  word = c.core.word;
  levels_a = c.core.a.outside;
  levels_b = c.core.b.outside;
  levels_c = c.core.c.outside;
}

-- What the chip's channel holds there.
abbrev pub left_in : Group → Side → Chip → Left
left_in g s c = left (channel_of c.core g s).fill (channel_of c.core g s).latch

-- The bytes offered and planted since then, their first event at place 1.
abbrev pub new_bytes : Group → Side → Chip → List Event → List Byte
new_bytes g s c es = bytes s (left_in g s c) 1 (effects g s (surroundings_of c) es)

-- The byte, if any, that waits where the effects begin.
abbrev pub held_byte : Fill → Offer → ℕ → List Effect → List Byte
held_byte Empty o n later = []
held_byte Waiting o n later = with_fate o n later ∷ []
held_byte Fetching o n later = []

-- A byte that waits at the start of a history counts as offered at place 0, with the latch's value, which later levels may change.
abbrev pub old_byte : Group → Side → Chip → List Event → List Byte
old_byte g s c es =
    held_byte (channel_of c.core g s).fill (offered_at 0 (channel_of c.core g s).latch) 1 (effects g s (surroundings_of c) es)

-- All bytes of a history that begins there: the one that waited, if any, and those that came since.
abbrev pub all_bytes : Group → Side → Chip → List Event → List Byte
all_bytes g s c es = old_byte g s c es ++ new_bytes g s c es

-- Something that holds of each byte.
abbrev pub Each : (Byte → Type 0) → List Byte → Type 0
Each P [] = Unit {0}
Each P (b ∷ bs) = P b × Each P bs

-- One after the other, from place n on: a byte is decided after it is offered, and the next is offered no earlier than that.
abbrev pub InOrder : ℕ → List Byte → Type 0
InOrder n [] = Unit {0}
InOrder n (b ∷ bs) = (n ≤ b.offer.place) × (b.offer.place < b.outcome.place) × InOrder b.outcome.place bs

-- An accepted event shows the value v: a read answers it, or the chip, as ACK falls, drives all eight lines of the port with it.
abbrev pub Shows : Group → Side → Chip → Event → ℕ → Type 0
Shows g Input c e v = ((stepped c e).number ≡ 0) × ((stepped c e).byte ≡ v)
Shows g Output c e v = ((stepped c e).number ≡ 0) × (pins_of (stepped c e).state (port_number g) ≡ record { levels = v; driven = 0xff })

-- The event at place n of a history shows v; the first is at place 1.
abbrev pub ShownAt : Group → Side → Chip → List Event → ℕ → ℕ → Type 0
ShownAt g s c [] n v = ⊥
ShownAt g s c (e ∷ es) zero v = ⊥
ShownAt g s c (e ∷ es) (suc zero) v = Shows g s c e v
ShownAt g s c (e ∷ es) (suc (suc n)) v = ShownAt g s (stepped c e).state es (suc n) v

-- Each byte that still waits after a history has, by then, the value that the chip's channel holds in its latch.
abbrev pub HeldInTheLatch : Group → Side → Chip → List Event → List Byte → Type 0
HeldInTheLatch g s c es = Each (λ b. b.outcome.fate ≡ waiting → b.offer.value ≡ (channel_of (run c es).core g s).latch)

-- The handshake alone fills a channel's latch: that of an input always, that of an output where the mode word strobes it. The latch of a
-- plain output is filled by every write to the port, and no byte is offered.
abbrev pub handshake_alone : ℕ → Group → Side → Bool
handshake_alone w g Input = true
handshake_alone w g Output = strobes w g Output

-- A byte that waits in the channel waits in such a latch. So it is at power-up, where none waits, and in every chip that has an image.
abbrev pub WaitsByHandshake : Group → Side → Chip → Type 0
WaitsByHandshake g s c = (channel_of c.core g s).fill ≡ Waiting → handshake_alone c.core.word g s ≡ true

-- What is promised of a channel after the events es from the chip c, where `new` are the bytes offered and planted since, `all` are these and
-- the one that waited at the start, and `start` are the tallies there.
pub record Fates (g : Group) (s : Side) (c : Chip) (es : List Event) (start : Tally) (new all : List Byte) : Type 0 where
  -- Each byte has one of the six fates; at most one waits, and one does exactly where the chip's channel waits.
  pub one_fate_each :
      length all ≡ count handed_over all + count overwritten all + count swallowed all + count cleared all + count struck all + count waiting all
  pub at_most_one_waits : count waiting all ≤ 1
  pub waits_in_the_chip : count waiting all ≡ num (is_waiting (channel_of (run c es).core g s).fill)
  -- One that came since and waits is what the channel's latch holds.
  pub held_in_the_latch : HeldInTheLatch g s c es new
  -- Each byte handed over is the one that was offered or planted, with the value on which it settled, and they come in order.
  pub as_offered : Each (λ b. b.outcome.fate ≡ handed_over → ShownAt g s c es b.outcome.place b.offer.value) all
  pub in_order : InOrder 0 all
  -- Each that came since was either offered or planted, and the tallies are the counts.
  pub offered_or_planted : length new ≡ offered_among new + planted_among new
  pub tally_offered : (tallies g s c es).offered ≡ (start.offered + offered_among new) % 65536
  pub tally_handed : (tallies g s c es).handed ≡ (start.handed + count handed_over all) % 65536
  pub tally_overwritten : (tallies g s c es).overwritten ≡ (start.overwritten + count overwritten all) % 65536
  pub tally_swallowed : (tallies g s c es).swallowed ≡ (start.swallowed + count swallowed all) % 65536
  pub tally_cleared : (tallies g s c es).cleared ≡ (start.cleared + count cleared all) % 65536
  pub tally_planted : (tallies g s c es).planted ≡ (start.planted + planted_among new) % 65536
  pub tally_struck : (tallies g s c es).struck ≡ (start.struck + count struck all) % 65536

-- From a power-up of this edition under these levels nothing has been counted, and no byte waits.
abbrev pub FatesFromPowerUp : Group → Side → Edition → Levels → List Event → Type 0
FatesFromPowerUp g s ed l es = Fates g s (power_up_as ed l) es no_tally (bytes_of g s ed l es) (bytes_of g s ed l es)

-- From any chip the counts go on from its tallies, and a byte that waits in it is among all bytes.
abbrev pub FatesFrom : Group → Side → Chip → List Event → Type 0
FatesFrom g s c es = Fates g s c es (tally_of c g s) (new_bytes g s c es) (all_bytes g s c es)

-- A channel's tallies balance: what was offered or planted is what was handed over, overwritten, swallowed, cleared and struck, and the byte
-- that may still wait; as far as tallies tell, which begin again after 65,535.
abbrev pub Balanced : Tally → Fill → Type 0
Balanced t f =
    (t.offered + t.planted) % 65536 ≡ (t.handed + t.overwritten + t.swallowed + t.cleared + t.struck + num (is_waiting f)) % 65536

-- They balance after the events es from the chip c.
abbrev pub BalancedAfter : Group → Side → Chip → List Event → Type 0
BalancedAfter g s c es = Balanced (tallies g s c es) (channel_of (run c es).core g s).fill

-- From a power-up of this edition under these levels no byte was offered to the group's input, by the events and by the chip's tally.
pub record NoneOffered (g : Group) (ed : Edition) (l : Levels) (es : List Event) : Type 0 where
  pub by_events : offered_among (bytes_of g Input ed l es) ≡ 0
  pub by_tally : (tallies g Input (power_up_as ed l) es).offered ≡ 0

-- None of those that were written to its output was handed over.
pub record NoneHandedOver (g : Group) (ed : Edition) (l : Levels) (es : List Event) : Type 0 where
  pub by_events : count handed_over (bytes_of g Output ed l es) ≡ 0
  pub by_tally : (tallies g Output (power_up_as ed l) es).handed ≡ 0

-- Tallies of sixteen bits, as the type makes them.
pub record SixteenBits (t : Tally) : Type 0 where
  pub offered : t.offered < 65536
  pub handed : t.handed < 65536
  pub overwritten : t.overwritten < 65536
  pub swallowed : t.swallowed < 65536
  pub cleared : t.cleared < 65536
  pub planted : t.planted < 65536
  pub struck : t.struck < 65536
