-- An older image in a slice, which may have any length, made an image.
use Rattle.std.specs.Prelude.{cond, ◌&&◌, List, [], ◌∷◌, ◌++◌, ℕ, ◌+◌, ◌-◌, ◌*◌, eqb, length, replicate}
use Rattle.bits.specs.Table.{from}
use Rattle.image.specs.Places as now
use Rattle.image.specs.Loaded.{byte_at}
use Rattle.image.specs.Slices.{bus_saved_in}
use Rattle.image.specs.OlderPlaces as places
use Rattle.image.specs.OlderLoaded.{older_state}

-- The tallies of channel k as an image has them.
abbrev pub widened : List ℕ → ℕ → List ℕ
widened l k = from (byte_at l) (places.tallies + places.channel_tallies * k) places.channel_tallies ++ replicate 4 0

-- The bytes at the places of an image of the older edition, on an idle bus; what is not used is moved too.
abbrev pub moved_of : List ℕ → List ℕ
moved_of l =
    widened l 0 ++ widened l 1 ++ widened l 2 ++ widened l 3
    ++ from (byte_at l) places.levels_a (places.bus - places.levels_a)
    ++ (now.idle ∷ 0 ∷ now.older ∷ [])
    ++ from (byte_at l) places.unused (places.length - places.unused) ++ replicate 16 0

-- The same on the bus that the bytes tell.
abbrev pub converted_of : List ℕ → List ℕ
converted_of l = bus_saved_in (moved_of l) (older_state l).phase

-- Into as many bytes as an image has; slices of other lengths are left alone.
unfoldable pub converted_in : List ℕ → List ℕ → List ℕ
converted_in o l = cond (eqb (length o) places.length && eqb (length l) now.length) (converted_of o) l
