-- An image in a slice, which may have any length, and the parts of it that are saved by themselves.
use Rattle.std.specs.Prelude.{cond, List, ℕ, ◌+◌, ◌*◌, Option, Some, None, eqb, length, slice_set}
use Rattle.std.proofs.lemmas.List.Edits.{sets}
use Rattle.bus.specs.declared.Phase.{Phase}
use Rattle.chip.specs.declared.channel.Channel.{Channel}
use Rattle.chip.specs.declared.Chip.{Chip}
use Rattle.image.specs.Places as places
use Rattle.image.specs.Layout.{tally_bytes, fill_byte, bus_bytes, image_of}
use Rattle.image.specs.Loaded.{state_of}
use Rattle.image.specs.Good.{is_image}

-- Of as many bytes as an image has none is left as it was; a slice of another length is left alone.
unfoldable pub saved_in : List ℕ → Chip → List ℕ
saved_in l c = cond (eqb (length l) places.length) (image_of c) l

-- The chip that a slice tells, where its bytes are an image. Any others give none, and so does a slice of another length.
unfoldable pub loaded_from : List ℕ → Option Chip
loaded_from l = cond (is_image l) (Some (state_of l)) None

-- Of the bus its two bytes: what is behind stays, and what is before.
unfoldable pub bus_saved_in : List ℕ → Phase → List ℕ
bus_saved_in l ph = sets l places.bus (bus_bytes ph)

-- Of one channel its tallies, its latch and its condition, by its number.
abbrev pub channel_saved_in : List ℕ → ℕ → Channel → List ℕ
channel_saved_in l k ch =
    slice_set (slice_set (sets l (places.tallies + places.channel_tallies * k) (tally_bytes ch.tally)) (places.latches + k) ch.latch) (places.conditions + k) (fill_byte ch.fill)
