-- The table of an older image, place by place: what its 64 bytes tell of a chip, and what becomes of them ("Forcing the flags").
use Rattle.std.specs.Prelude.{◌≡◌, List, ℕ, ◌+◌, ◌≤◌, length, drop, replicate}
use Rattle.bus.specs.declared.Phase.{Phase}
use Rattle.bus.specs.declared.Phase.TheVariants.{Idle, Reading, Writing}
use Rattle.chip.specs.declared.channel.Tally.{Tally}
use Rattle.chip.specs.declared.channel.Channel.{Channel}
use Rattle.chip.specs.declared.Edition.TheVariants.{Older}
use Rattle.chip.specs.declared.Chip.{Chip}
use Rattle.image.specs.Layout.{image_of}
use Rattle.image.specs.OlderLoaded.{older_state}
use Rattle.calls.specs.Calls.{tally_answer, convert_answer, convert_image}
use Rattle.restored.specs.Table.{byte, count_at, condition_number, enables_number, written_number}

-- Five tallies of a channel, from a place on. The other two have no place, and are 0.
pub record TellsFive (o : List ℕ) (i : ℕ) (t : Tally) : Type 0 where
  pub offered : t.offered ≡ count_at o i
  pub handed : t.handed ≡ count_at o (i + 2)
  pub overwritten : t.overwritten ≡ count_at o (i + 4)
  pub swallowed : t.swallowed ≡ count_at o (i + 6)
  pub cleared : t.cleared ≡ count_at o (i + 8)
  pub planted : t.planted ≡ 0
  pub struck : t.struck ≡ 0

-- A channel: its tallies from one place on, its latch and its condition at two others.
pub record TellsOlderChannel (o : List ℕ) (tallies latch_at condition_at : ℕ) (ch : Channel) : Type 0 where
  pub counts : TellsFive o tallies ch.tally
  pub latch : ch.latch ≡ byte o latch_at
  pub fill : condition_number ch.fill ≡ byte o condition_at

-- What runs on the bus: 0 nothing, 1 a read, 2 a write; and the port or the address that it names.
abbrev pub running_number : Phase → ℕ
running_number Idle = 0
running_number (Reading p) = 1
running_number (Writing x d) = 2

abbrev pub place_number : Phase → ℕ
place_number Idle = 0
place_number (Reading p) = p
place_number (Writing x d) = x

-- The bytes tell this chip, which is of the older edition.
pub record OlderTells (o : List ℕ) (c : Chip) : Type 0 where
  pub long : length o ≡ 64
  pub a_in : TellsOlderChannel o 0 44 48 c.core.a.input
  pub a_out : TellsOlderChannel o 10 45 49 c.core.a.output
  pub b_in : TellsOlderChannel o 20 46 50 c.core.b.input
  pub b_out : TellsOlderChannel o 30 47 51 c.core.b.output
  pub levels_a : c.core.a.outside ≡ byte o 40
  pub levels_b : c.core.b.outside ≡ byte o 41
  pub levels_c : c.core.c.outside ≡ byte o 42
  pub latch_c : c.core.c.latch ≡ byte o 43
  pub mode_word : c.core.word ≡ byte o 52
  pub enables : enables_number c.core.inte ≡ byte o 53
  pub running : running_number c.phase ≡ byte o 54
  pub place : place_number c.phase ≡ byte o 55
  pub written : written_number c.phase ≡ byte o 56
  pub edition : c.edition ≡ Older
  -- What is not used, 57 to 63, is 0.
  pub unused : drop 57 o ≡ replicate 7 0

-- What becomes of bytes that tell a chip which has an image: they are read as that chip, and the conversion writes its image over any 96 bytes, of
-- which the tally call answers 0 for tallies 5 and 6, planted and struck, of every channel.
pub record Converted (o : List ℕ) (c : Chip) : Type 0 where
  pub state : older_state o ≡ c
  pub answer : (room : List ℕ) → length room ≡ 96 → convert_answer o room ≡ 0
  pub written : (room : List ℕ) → length room ≡ 96 → convert_image o room ≡ image_of c
  pub planted : (room : List ℕ) (k : ℕ) → length room ≡ 96 → k ≤ 3 → tally_answer (convert_image o room) k 5 ≡ 0
  pub struck : (room : List ℕ) (k : ℕ) → length room ≡ 96 → k ≤ 3 → tally_answer (convert_image o room) k 6 ≡ 0
