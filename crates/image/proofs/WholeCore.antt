-- A core that is saved part by part: its bytes fill the place that an image has for it.
-- Rests on SameBytes.
use Rattle.std.proofs.Common.{◌≡◌, ◌∙◌, ap, sym, List, ℕ, length, slice_set}
use lib.Seq.{sets}
use Rattle.bits.specs.Table.{from}
use Rattle.chip.specs.declared.Core.{Core}
use Rattle.image.specs.Places as places
use Rattle.image.specs.Layout.{enables_byte, core_bytes}
use Rattle.image.specs.Loaded.{byte_at}
use Rattle.image.specs.Slices.{channel_saved_in}
use Rattle.image.proofs.SameBytes.{spelled}

abbrev channels : Core → List ℕ → List ℕ
channels c l =
    channel_saved_in (channel_saved_in (channel_saved_in (channel_saved_in l 0 c.a.input) 1 c.a.output) 2 c.b.input) 3 c.b.output

abbrev parts : Core → List ℕ → List ℕ
parts c l =
    slice_set (slice_set (slice_set (slice_set (slice_set (slice_set (channels c l)
    places.levels_a c.a.outside) places.levels_b c.b.outside) places.levels_c c.c.outside)
    places.latch_c c.c.latch) places.word c.word) places.enables (enables_byte c.inte)

pub by_parts : (c : Core) (l : List ℕ) → length l ≡ places.length → parts c l ≡ sets l places.tallies (core_bytes c)
by_parts c l long =
    let same : from (byte_at l) 0 places.length ≡ l = spelled l places.length long in
    ap (parts c) (sym same) ∙ ap (λ (m : List ℕ). sets m places.tallies (core_bytes c)) same
