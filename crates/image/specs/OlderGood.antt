-- Which bytes are an older image.
use Rattle.std.specs.Prelude.{Bool, false, cond, ◌&&◌, List, ℕ, ◌-◌, eqb, ltb, length}
use Rattle.bits.specs.Table.{from}
use Rattle.image.specs.Loaded.{byte_at}
use Rattle.image.specs.Good.{all_zero, core_fits}
use Rattle.image.specs.OlderPlaces as places
use Rattle.image.specs.OlderLoaded.{core_byte}

-- The bus is idle, and then its other two bytes are 0, or a cycle runs and names its place; a read writes nothing.
abbrev pub cycle_fits : ℕ → ℕ → ℕ → Bool
cycle_fits bus address byte =
    cond (eqb bus 0) (eqb address 0 && eqb byte 0)
    (cond (eqb bus 1) (ltb address 3 && eqb byte 0)
    (cond (eqb bus 2) (ltb address 4)
    false))

-- What is not used, up to the end, is 0.
abbrev pub unused_zero : List ℕ → Bool
unused_zero l = all_zero (from (byte_at l) places.unused (places.length - places.unused))

-- As many bytes as an older image has, that are a state's.
abbrev pub bytes_fit : List ℕ → Bool
bytes_fit l =
    cycle_fits (byte_at l places.bus) (byte_at l places.address) (byte_at l places.written) && (unused_zero l && core_fits (core_byte l))

-- Any other bytes, and any other number of them, are none.
unfoldable pub is_older : List ℕ → Bool
is_older l = eqb (length l) places.length && bytes_fit l
