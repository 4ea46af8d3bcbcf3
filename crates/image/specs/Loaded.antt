-- The state that an image tells, byte by byte.
use Rattle.std.specs.Prelude.{cond, List, ℕ, ◌+◌, ◌*◌, ◌%◌, eqb, ltb, get_or}
use Rattle.bits.specs.Bit.{bit_of}
use Rattle.bus.specs.declared.Phase.{Phase}
use Rattle.bus.specs.declared.Phase.TheVariants.{Idle, Reading, Writing}
use Rattle.chip.specs.declared.channel.Fill.{Fill}
use Rattle.chip.specs.declared.channel.Fill.TheVariants.{Empty, Waiting, Fetching}
use Rattle.chip.specs.declared.channel.Tally.{Tally}
use Rattle.chip.specs.declared.channel.Channel.{Channel}
use Rattle.chip.specs.declared.Enables.{Enables}
use Rattle.chip.specs.declared.Core.{Core}
use Rattle.chip.specs.declared.Edition.{Edition}
use Rattle.chip.specs.declared.Edition.TheVariants.{Older, Newer}
use Rattle.chip.specs.declared.Chip.{Chip}
use Rattle.image.specs.Places as places

-- Byte i of a list.
abbrev pub byte_at : List ℕ → ℕ → ℕ
byte_at l i = get_or l i 0

-- A tally's two bytes, the low one first.
abbrev pub wide_at : List ℕ → ℕ → ℕ
wide_at l i = byte_at l i + 256 * byte_at l (i + 1)

-- Eight bytes as one number, the lowest first.
abbrev pub eight_at : List ℕ → ℕ → ℕ
eight_at l i = wide_at l i + 65536 * wide_at l (i + 2) + 4294967296 * wide_at l (i + 4) + 281474976710656 * wide_at l (i + 6)

-- Seven tallies from place i on.
abbrev pub tally_at : List ℕ → ℕ → Tally
tally_at l i = record {
  offered = wide_at l i;
  handed = wide_at l (i + 2);
  overwritten = wide_at l (i + 4);
  swallowed = wide_at l (i + 6);
  cleared = wide_at l (i + 8);
  planted = wide_at l (i + 10);
  struck = wide_at l (i + 12);
}

-- A channel's condition: 0 empty, 1 waiting, 2 fetching.
abbrev pub fill_as : ℕ → Fill
fill_as b = cond (eqb b 0) Empty (cond (eqb b 1) Waiting Fetching)

-- The enables, each from the pin on which a read of port C tells it.
abbrev pub enables_as : ℕ → Enables
enables_as b = record { input = bit_of b 4; output = bit_of b 6; b = bit_of b 2 }

-- Channel k, 0 is A in, 1 A out, 2 B in and 3 B out, by the byte at each place and the tallies of each channel.
abbrev pub channel_by : (ℕ → ℕ) → (ℕ → Tally) → ℕ → Channel
channel_by byte tally k = record { fill = fill_as (byte (places.conditions + k)); latch = byte (places.latches + k); tally = tally k }

-- All but the bus and the edition, by the same. Older images have these bytes too, sixteen places further ahead.
abbrev pub core_by : (ℕ → ℕ) → (ℕ → Tally) → Core
core_by byte tally = record {
  word = byte places.word;
  a = record { input = channel_by byte tally 0; output = channel_by byte tally 1; outside = byte places.levels_a };
  b = record { input = channel_by byte tally 2; output = channel_by byte tally 3; outside = byte places.levels_b };
  c = record { latch = byte places.latch_c; outside = byte places.levels_c };
  inte = enables_as (byte places.enables);
}

-- The tallies of channel k in an image, and the channel.
abbrev pub channel_tally : List ℕ → ℕ → Tally
channel_tally l k = tally_at l (places.tallies + places.channel_tallies * k)

abbrev pub channel_at : List ℕ → ℕ → Channel
channel_at l k = channel_by (byte_at l) (channel_tally l) k

-- The bus, by its byte and the byte that is written. The address is what is left of the first beyond a multiple of 4.
abbrev pub phase_as : ℕ → ℕ → Phase
phase_as bus byte =
    cond (ltb bus places.writes) (Reading (bus % places.writes))
    (cond (ltb bus places.idle) (Writing (bus % places.writes) byte)
    Idle)

-- The edition.
abbrev pub edition_as : ℕ → Edition
edition_as b = cond (eqb b places.older) Older Newer

-- The whole state.
unfoldable pub state_of : List ℕ → Chip
state_of l = record {
  phase = phase_as (byte_at l places.bus) (byte_at l places.written);
  edition = edition_as (byte_at l places.edition);
  core = core_by (byte_at l) (channel_tally l);
}
