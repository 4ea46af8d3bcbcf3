-- The table of an image, place by place: what its bytes tell of a chip ("A host in C").
use Rattle.std.specs.Prelude.{◌≡◌, List, ℕ, ◌+◌, ◌*◌, length, get_or, drop, replicate}
use Rattle.bits.specs.Bit.{num}
use Rattle.bus.specs.declared.Phase.{Phase}
use Rattle.bus.specs.declared.Phase.TheVariants.{Idle, Reading, Writing}
use Rattle.chip.specs.declared.channel.Fill.{Fill}
use Rattle.chip.specs.declared.channel.Fill.TheVariants.{Empty, Waiting, Fetching}
use Rattle.chip.specs.declared.channel.Tally.{Tally}
use Rattle.chip.specs.declared.channel.Channel.{Channel}
use Rattle.chip.specs.declared.Enables.{Enables}
use Rattle.chip.specs.declared.Edition.{Edition}
use Rattle.chip.specs.declared.Edition.TheVariants.{Older, Newer}
use Rattle.chip.specs.declared.Chip.{Chip}
use Rattle.restored.specs.Having.{HasImage}

-- The byte at a place.
abbrev pub byte : List ℕ → ℕ → ℕ
byte l i = get_or l i 0

-- A count in two bytes, the low one first.
abbrev pub count_at : List ℕ → ℕ → ℕ
count_at l i = byte l i + 256 * byte l (i + 1)

-- The seven tallies of a channel, from a place on.
pub record TellsTallies (l : List ℕ) (i : ℕ) (t : Tally) : Type 0 where
  pub offered : t.offered ≡ count_at l i
  pub handed : t.handed ≡ count_at l (i + 2)
  pub overwritten : t.overwritten ≡ count_at l (i + 4)
  pub swallowed : t.swallowed ≡ count_at l (i + 6)
  pub cleared : t.cleared ≡ count_at l (i + 8)
  pub planted : t.planted ≡ count_at l (i + 10)
  pub struck : t.struck ≡ count_at l (i + 12)

-- The number of a condition.
abbrev pub condition_number : Fill → ℕ
condition_number Empty = 0
condition_number Waiting = 1
condition_number Fetching = 2

-- A channel: its tallies from one place on, its latch and its condition at two others.
pub record TellsChannel (l : List ℕ) (tallies latch_at condition_at : ℕ) (ch : Channel) : Type 0 where
  pub counts : TellsTallies l tallies ch.tally
  pub latch : ch.latch ≡ byte l latch_at
  pub fill : condition_number ch.fill ≡ byte l condition_at

-- The byte of the enables: bit 4 for INTE in A, bit 6 for INTE out A and bit 2 for INTE B; its other bits are 0.
abbrev pub enables_number : Enables → ℕ
enables_number e = 16 * num e.input + 64 * num e.output + 4 * num e.b

-- The byte of the bus, and the byte that is written: 8 where it is idle, the place that a read names, or the address of a write above 4.
abbrev pub bus_number : Phase → ℕ
bus_number Idle = 8
bus_number (Reading p) = p
bus_number (Writing x d) = 4 + x

abbrev pub written_number : Phase → ℕ
written_number Idle = 0
written_number (Reading p) = 0
written_number (Writing x d) = d

-- The number of an edition.
abbrev pub edition_number : Edition → ℕ
edition_number Older = 0
edition_number Newer = 1

-- The bytes tell this chip.
pub record Tells (l : List ℕ) (c : Chip) : Type 0 where
  pub long : length l ≡ 96
  pub a_in : TellsChannel l 0 60 64 c.core.a.input
  pub a_out : TellsChannel l 14 61 65 c.core.a.output
  pub b_in : TellsChannel l 28 62 66 c.core.b.input
  pub b_out : TellsChannel l 42 63 67 c.core.b.output
  pub levels_a : c.core.a.outside ≡ byte l 56
  pub levels_b : c.core.b.outside ≡ byte l 57
  pub levels_c : c.core.c.outside ≡ byte l 58
  pub latch_c : c.core.c.latch ≡ byte l 59
  pub mode_word : c.core.word ≡ byte l 68
  pub enables : enables_number c.core.inte ≡ byte l 69
  pub bus : bus_number c.phase ≡ byte l 70
  pub written : written_number c.phase ≡ byte l 71
  pub edition : edition_number c.edition ≡ byte l 72
  -- What is not used, 73 to 95, is 0.
  pub unused : drop 73 l ≡ replicate 23 0

-- Bytes tell some chip that has an image.
abbrev pub TellsSome : List ℕ → Type 0
TellsSome l = (c : Chip) × HasImage c × Tells l c
