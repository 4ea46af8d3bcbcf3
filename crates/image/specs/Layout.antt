-- The image of a chip: the bytes that a host keeps and saves, part by part in the order of Places.
use Rattle.std.specs.Prelude.{false, cond, List, [], ◌∷◌, ◌++◌, ℕ, ◌+◌, ◌-◌, ◌/◌, ◌%◌, ltb, replicate}
use Rattle.bits.specs.Bit.{byte_of}
use Rattle.bus.specs.declared.Phase.{Phase}
use Rattle.bus.specs.declared.Phase.TheVariants.{Idle, Reading, Writing}
use Rattle.control.specs.declared.Group.{Group}
use Rattle.control.specs.declared.Group.TheVariants.{A, B}
use Rattle.chip.specs.declared.channel.Side.{Side}
use Rattle.chip.specs.declared.channel.Side.TheVariants.{Input, Output}
use Rattle.chip.specs.declared.channel.Fill.{Fill}
use Rattle.chip.specs.declared.channel.Fill.TheVariants.{Empty, Waiting, Fetching}
use Rattle.chip.specs.declared.channel.Tally.{Tally}
use Rattle.chip.specs.declared.Enables.{Enables}
use Rattle.chip.specs.declared.Core.{Core}
use Rattle.chip.specs.declared.Edition.{Edition}
use Rattle.chip.specs.declared.Edition.TheVariants.{Older, Newer}
use Rattle.chip.specs.declared.Chip.{Chip}
use Rattle.image.specs.Places as places

-- A tally as two bytes, the low one first.
abbrev pub wide_bytes : ℕ → List ℕ
wide_bytes n = n % 256 ∷ n / 256 ∷ []

-- The five tallies of a channel that every layout has.
abbrev pub five_tallies : Tally → List ℕ
five_tallies t =
    wide_bytes t.offered ++ wide_bytes t.handed ++ wide_bytes t.overwritten ++ wide_bytes t.swallowed ++ wide_bytes t.cleared

-- All seven.
abbrev pub tally_bytes : Tally → List ℕ
tally_bytes t = five_tallies t ++ wide_bytes t.planted ++ wide_bytes t.struck

-- The first part, by what a channel has there: that of the channels A in, A out, B in and B out.
abbrev pub of_channels : (Tally → List ℕ) → Core → List ℕ
of_channels bytes c =
    bytes c.a.input.tally ++ bytes c.a.output.tally ++ bytes c.b.input.tally ++ bytes c.b.output.tally

-- The channels are numbered A in, A out, B in and B out.
abbrev pub number_of : Group → Side → ℕ
number_of A Input = 0
number_of A Output = 1
number_of B Input = 2
number_of B Output = 3

-- The condition of a channel.
abbrev pub fill_byte : Fill → ℕ
fill_byte Empty = 0
fill_byte Waiting = 1
fill_byte Fetching = 2

-- The enables, each on the pin on which a read of port C tells it.
abbrev pub enables_byte : Enables → ℕ
enables_byte e = byte_of false e.output false e.input false e.b false false

-- What runs on the bus: a read at an address, 0 to 3, a write to one, or nothing. A cycle elsewhere is no state's with an image.
abbrev pub bus_byte : Phase → ℕ
bus_byte Idle = places.idle
bus_byte (Reading p) = cond (ltb p 4) p places.nowhere
bus_byte (Writing a d) = cond (ltb a 4) (places.writes + a) places.nowhere

-- The byte that it writes.
abbrev pub written_byte : Phase → ℕ
written_byte Idle = 0
written_byte (Reading p) = 0
written_byte (Writing a d) = d

-- The second part, from the levels on, four to a row: the levels outside and the latch of port C; the latches of the four channels; their
-- conditions.
abbrev pub port_bytes : Core → List ℕ
port_bytes c =
    c.a.outside ∷ c.b.outside ∷ c.c.outside ∷ c.c.latch
    ∷ c.a.input.latch ∷ c.a.output.latch ∷ c.b.input.latch ∷ c.b.output.latch
    ∷ fill_byte c.a.input.fill ∷ fill_byte c.a.output.fill ∷ fill_byte c.b.input.fill ∷ fill_byte c.b.output.fill ∷ []

-- All but the bus and the edition: the tallies, these twelve, the mode word and the enables.
abbrev pub core_bytes : Core → List ℕ
core_bytes c = of_channels tally_bytes c ++ port_bytes c ++ (c.word ∷ enables_byte c.inte ∷ [])

-- The bus.
abbrev pub bus_bytes : Phase → List ℕ
bus_bytes ph = bus_byte ph ∷ written_byte ph ∷ []

-- Which part the chip is.
abbrev pub edition_byte : Edition → ℕ
edition_byte Older = places.older
edition_byte Newer = places.newer

-- All of it; what is not used is 0.
unfoldable pub image_of : Chip → List ℕ
image_of c =
    core_bytes c.core ++ bus_bytes c.phase ++ (edition_byte c.edition ∷ []) ++ replicate (places.length - places.unused) 0
