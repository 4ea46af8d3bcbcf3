-- Which chips have an image ("A host in C", "The 82C55A"): by the rules' own words, and by the bytes that there are.
use Rattle.std.specs.Prelude.{◌≡◌, true, List, ◌⊎◌, ℕ, ◌/◌, ◌%◌, ◌<◌, ◌≤◌}
use Rattle.bus.specs.declared.Phase.{Phase}
use Rattle.bus.specs.declared.Phase.TheVariants.{Idle, Reading, Writing}
use Rattle.control.specs.declared.Group.{Group}
use Rattle.chip.specs.declared.channel.Side.{Side}
use Rattle.chip.specs.declared.channel.Side.TheVariants.{Input, Output}
use Rattle.chip.specs.declared.channel.Fill.{Fill}
use Rattle.chip.specs.declared.channel.Fill.TheVariants.{Empty, Waiting}
use Rattle.chip.specs.declared.Edition.{Edition}
use Rattle.chip.specs.declared.Edition.TheVariants.{Older, Newer}
use Rattle.chip.specs.declared.Chip.{Chip}
use Rattle.chip.specs.State.{channel_of}
use Rattle.fates.specs.Effects.{strobes}
use Rattle.fates.specs.Promise.{SixteenBits}
use Rattle.image.specs.Loaded.{state_of}
use Rattle.image.specs.Good.{is_image, Bytes}

-- A cycle names a place that there is: a read one that can be read, port 0, 1 or 2, or in the newer edition control too, which is 3; a write
-- an address from 0 to 3.
abbrev pub NamesAPlace : Edition → Phase → Type 0
NamesAPlace ed Idle = Unit {0}
NamesAPlace Older (Reading p) = p ≤ 2
NamesAPlace Newer (Reading p) = p ≤ 3
NamesAPlace ed (Writing x d) = x ≤ 3

-- The condition of a channel.
abbrev pub condition_in : Chip → Group → Side → Fill
condition_in c g s = (channel_of c.core g s).fill

-- A chip has an image: its cycle names a place, bit 7 of its mode word is set, each input is empty unless the mode word strobes it, and each
-- output is empty, or it is strobed and a byte waits there, so that none is fetching. Which channels are strobed is said by the fates.
pub record HasImage (c : Chip) : Type 0 where
  pub place : NamesAPlace c.edition c.phase
  pub mode_word : c.core.word / 128 % 2 ≡ 1
  pub input : (g : Group) → (condition_in c g Input ≡ Empty) ⊎ (strobes c.core.word g Input ≡ true)
  pub output : (g : Group) → (condition_in c g Output ≡ Empty) ⊎ ((strobes c.core.word g Output ≡ true) × (condition_in c g Output ≡ Waiting))

-- A byte that is being written is one.
abbrev pub ByteWritten : Phase → Type 0
ByteWritten Idle = Unit {0}
ByteWritten (Reading p) = Unit {0}
ByteWritten (Writing x d) = d < 256

-- A chip's bytes are below 256, and its tallies below 65,536.
pub record InRange (c : Chip) : Type 0 where
  pub written : ByteWritten c.phase
  pub word : c.core.word < 256
  pub levels_a : c.core.a.outside < 256
  pub levels_b : c.core.b.outside < 256
  pub levels_c : c.core.c.outside < 256
  pub latch_c : c.core.c.latch < 256
  pub latch : (g : Group) (s : Side) → (channel_of c.core g s).latch < 256
  pub tallies : (g : Group) (s : Side) → SixteenBits (channel_of c.core g s).tally

-- There are bytes that are an image, and the chip that is restored from them is this one.
abbrev pub ComesFromBytes : Chip → Type 0
ComesFromBytes c = (l : List ℕ) × Bytes l × (is_image l ≡ true) × (state_of l ≡ c)
