-- What each of the two groups keeps while the other is at work, with pins and ports by plain numbers, and the rest by the fields of a chip
-- ("Two groups"). Nothing here asks what belongs to a group.
use Rattle.std.specs.Prelude.{◌≡◌, ℕ, ◌<◌, ◌≤◌}
use Rattle.bits.specs.Bit.{bit_of}
use Rattle.control.specs.declared.Group.TheVariants.{A, B}
use Rattle.chip.specs.declared.channel.Channel.{Channel}
use Rattle.chip.specs.declared.Chip.{Chip}
use Rattle.chip.specs.Reasons.{explained_in}
use Rattle.chip.specs.Reads.{read_of}
use Rattle.chip.specs.Pins.{pins_of}

-- Of pin n of port C: its level, whether the chip drives it, and what a read of port C tells of it; and what is behind these, its bit of the latch
-- and its level outside.
pub record PinKept (c' c : Chip) (n : ℕ) : Type 0 where
  pub level : bit_of (pins_of c' 2).levels n ≡ bit_of (pins_of c 2).levels n
  pub driven : bit_of (pins_of c' 2).driven n ≡ bit_of (pins_of c 2).driven n
  pub told : bit_of (read_of c' 2) n ≡ bit_of (read_of c 2) n
  pub latch : bit_of c'.core.c.latch n ≡ bit_of c.core.c.latch n
  pub outside : bit_of c'.core.c.outside n ≡ bit_of c.core.c.outside n

-- Of port p: its levels, the mask of the pins that the chip drives, and what a read of it answers.
pub record PortKept (c' c : Chip) (p : ℕ) : Type 0 where
  pub levels : (pins_of c' p).levels ≡ (pins_of c p).levels
  pub driven : (pins_of c' p).driven ≡ (pins_of c p).driven
  pub read : read_of c' p ≡ read_of c p

-- Of a channel: its condition, its latch, and each of its seven tallies.
pub record ChannelKept (k' k : Channel) : Type 0 where
  pub fill : k'.fill ≡ k.fill
  pub latch : k'.latch ≡ k.latch
  pub offered : k'.tally.offered ≡ k.tally.offered
  pub handed : k'.tally.handed ≡ k.tally.handed
  pub overwritten : k'.tally.overwritten ≡ k.tally.overwritten
  pub swallowed : k'.tally.swallowed ≡ k.tally.swallowed
  pub cleared : k'.tally.cleared ≡ k.tally.cleared
  pub planted : k'.tally.planted ≡ k.tally.planted
  pub struck : k'.tally.struck ≡ k.tally.struck

-- Group A keeps pins 7 to 3 of port C, port A and the levels outside on it, the channels A in and A out, INTE in A and INTE out A, and what is said
-- of its INTR.
pub record KeptByA (c' c : Chip) : Type 0 where
  pub pins : (n : ℕ) → 3 ≤ n → n < 8 → PinKept c' c n
  pub port : PortKept c' c 0
  pub outside : c'.core.a.outside ≡ c.core.a.outside
  pub input : ChannelKept c'.core.a.input c.core.a.input
  pub output : ChannelKept c'.core.a.output c.core.a.output
  pub input_enabled : c'.core.inte.input ≡ c.core.inte.input
  pub output_enabled : c'.core.inte.output ≡ c.core.inte.output
  pub interrupt : explained_in c' A ≡ explained_in c A

-- Group B keeps pins 2 to 0 of port C, port B and the levels outside on it, the channels B in and B out, INTE B, and what is said of its INTR.
pub record KeptByB (c' c : Chip) : Type 0 where
  pub pins : (n : ℕ) → n < 3 → PinKept c' c n
  pub port : PortKept c' c 1
  pub outside : c'.core.b.outside ≡ c.core.b.outside
  pub input : ChannelKept c'.core.b.input c.core.b.input
  pub output : ChannelKept c'.core.b.output c.core.b.output
  pub enabled : c'.core.inte.b ≡ c.core.inte.b
  pub interrupt : explained_in c' B ≡ explained_in c B

-- Two bytes have the same bits at pins 7 to 3. Levels on port C of which that is so differ from those outside at pins 2 to 0 at most.
abbrev pub SameFrom3 : ℕ → ℕ → Type 0
SameFrom3 x y = (n : ℕ) → 3 ≤ n → n < 8 → bit_of x n ≡ bit_of y n

-- Two bytes have the same bits at pins 3 to 0. Such levels differ from those outside at pins 7 to 4 at most.
abbrev pub SameTo3 : ℕ → ℕ → Type 0
SameTo3 x y = (n : ℕ) → n ≤ 3 → bit_of x n ≡ bit_of y n
