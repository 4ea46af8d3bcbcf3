-- Which states have an image, and which bytes are one.
use Rattle.std.specs.Prelude.{◌≡◌, Bool, true, false, cond, not, ◌&&◌, ◌||◌, List, [], ◌∷◌, ℕ, ◌+◌, ◌-◌, ◌<◌, eqb, ltb, length}
use Rattle.bits.specs.Bit.{bit_of}
use Rattle.bits.specs.Table.{from}
use Rattle.bus.specs.declared.Phase.{Phase}
use Rattle.bus.specs.declared.Phase.TheVariants.{Idle, Reading, Writing}
use Rattle.control.specs.declared.Group.TheVariants.{A, B}
use Rattle.control.specs.declared.Group.{Group}
use Rattle.chip.specs.declared.channel.Side.{Side}
use Rattle.chip.specs.declared.channel.Side.TheVariants.{Input, Output}
use Rattle.chip.specs.declared.channel.Fill.{Fill}
use Rattle.chip.specs.declared.channel.Fill.TheVariants.{Empty, Waiting, Fetching}
use Rattle.chip.specs.declared.Core.{Core}
use Rattle.chip.specs.declared.Edition.{Edition}
use Rattle.chip.specs.declared.Edition.TheVariants.{Older, Newer}
use Rattle.chip.specs.declared.Chip.{Chip}
use Rattle.chip.specs.Addresses.{control}
use Rattle.chip.specs.State.{channel_of}
use Rattle.chip.specs.Handshakes.{strobed}
use Rattle.image.specs.Places as places
use Rattle.image.specs.Layout.{enables_byte, image_of}
use Rattle.image.specs.Loaded.{byte_at, enables_as, state_of}

-- What can be read: in the older edition the ports, 0 to 2, and in the newer control too, which is 3 ("The 82C55A").
abbrev pub can_be_read : Edition → ℕ → Bool
can_be_read Older p = ltb p 3
can_be_read Newer p = ltb p 4

-- The first condition for an image: a read that runs names what can be read, and a write an address, 0 to 3.
abbrev pub names_its_place : Edition → Phase → Bool
names_its_place ed Idle = true
names_its_place ed (Reading p) = can_be_read ed p
names_its_place ed (Writing a d) = ltb a 4

-- The third and the fourth: no output is fetching, and a channel that the mode word does not strobe is empty.
abbrev pub allowed : Bool → Side → Fill → Bool
allowed strobed s Empty = true
allowed strobed s Waiting = strobed
allowed strobed Input Fetching = strobed
allowed strobed Output Fetching = false

-- They are asked of each of the four channels.
abbrev pub allowed_at : Core → Group → Side → Bool
allowed_at c g s = allowed (strobed c.word g s) s (channel_of c g s).fill

-- A state has an image where these hold, and bit 7 of its mode word is set, which is the second condition.
unfoldable pub has_image : Chip → Bool
has_image c =
    names_its_place c.edition c.phase && bit_of c.core.word 7
    && (allowed_at c.core A Input && allowed_at c.core A Output && allowed_at c.core B Input && allowed_at c.core B Output)

-- Of bytes: a write runs, and there is a byte that it writes.
abbrev pub writes : ℕ → Bool
writes bus = not (ltb bus places.writes) && ltb bus places.idle

-- The bus is idle, or a cycle runs at an address; what does not write has no byte to write. The older edition does not read control.
abbrev pub cycle_fits : ℕ → ℕ → ℕ → Bool
cycle_fits edition bus byte =
    not (ltb places.idle bus) && not (eqb edition places.older && eqb bus control) && (writes bus || eqb byte 0)

-- There is such an edition.
abbrev pub edition_fits : ℕ → Bool
edition_fits b = not (ltb places.newer b)

-- The enables stand on three bits, and the other five are 0.
abbrev pub enables_fit : ℕ → Bool
enables_fit b = eqb (enables_byte (enables_as b)) b

-- How many conditions a channel can be in, of empty, waiting and fetching: all of them where it is an input that the mode word strobes, the
-- first two where it is such an output, and otherwise the first alone.
abbrev pub conditions : Bool → Side → ℕ
conditions strobed Input = cond strobed 3 1
conditions strobed Output = cond strobed 2 1

-- They are numbered from 0.
abbrev pub fill_fits : Bool → Side → ℕ → Bool
fill_fits strobed s b = ltb b (conditions strobed s)

-- All of them are 0.
abbrev pub all_zero : List ℕ → Bool
all_zero [] = true
all_zero (b ∷ bs) = eqb b 0 && all_zero bs

-- What is not used, up to the end, is 0.
abbrev pub unused_zero : List ℕ → Bool
unused_zero l = all_zero (from (byte_at l) places.unused (places.length - places.unused))

-- The condition of channel k, that side of that group, under the mode word, by the byte at each place.
abbrev pub channel_fits : (ℕ → ℕ) → Group → Side → ℕ → Bool
channel_fits byte g s k = fill_fits (strobed (byte places.word) g s) s (byte (places.conditions + k))

-- All four.
abbrev pub fills_fit : (ℕ → ℕ) → Bool
fills_fit byte = channel_fits byte A Input 0 && channel_fits byte A Output 1 && channel_fits byte B Input 2 && channel_fits byte B Output 3

-- Bit 7 of the mode word is set, and the conditions and the enables fit. Older images have these bytes too.
abbrev pub core_fits : (ℕ → ℕ) → Bool
core_fits byte = bit_of (byte places.word) 7 && fills_fit byte && enables_fit (byte places.enables)

-- The bus fits, and what is behind it: the edition, and what is not used.
abbrev pub end_fits : List ℕ → Bool
end_fits l =
    cycle_fits (byte_at l places.edition) (byte_at l places.bus) (byte_at l places.written)
    && (edition_fits (byte_at l places.edition) && unused_zero l)

-- As many bytes as an image has, that are a state's.
abbrev pub bytes_fit : List ℕ → Bool
bytes_fit l = end_fits l && core_fits (byte_at l)

-- Any other bytes, and any other number of them, are no image: 8.
unfoldable pub is_image : List ℕ → Bool
is_image l = eqb (length l) places.length && bytes_fit l

-- The bytes are those of the state that they tell.
abbrev pub Told : List ℕ → Type 0
Told l = image_of (state_of l) ≡ l

-- A list of bytes, which is what a slice of them holds.
abbrev pub Bytes : List ℕ → Type 0
Bytes [] = Unit {0}
Bytes (b ∷ bs) = (b < 256) × Bytes bs
